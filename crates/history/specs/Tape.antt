-- Which bytes are a tape, where its parts stand, and what it asks for: document 01, "The tape and the answer sheet".
-- A byte past the end reads as 0; the last test of `is_tape` refuses a tape that is cut or has bytes left over.
use Rattle.std.specs.Prelude.{ℕ, zero, suc, ◌+◌, ◌*◌, Bool, true, ◌&&◌, cond, List, [], ◌∷◌, length, take, drop, eqb}
use Rattle.std.specs.Prelude.{leb, ltb}
use Rattle.manifest.specs.Layout.{u8_at, u16_at}
use Rattle.rules.specs.Action.{Action}
use Rattle.rules.specs.Record.{action_of}

-- ---- the manifests: a count byte, then each after its u16 length; the first is number 0
abbrev pub manifest_count : List ℕ → ℕ
manifest_count s = u8_at s 0

-- where the length of manifest k stands
unfoldable pub manifest_place : List ℕ → ℕ → ℕ
manifest_place s zero = 1
manifest_place s (suc k) = manifest_place s k + 2 + u16_at s (manifest_place s k)

abbrev pub manifest_length : List ℕ → ℕ → ℕ
manifest_length s k = u16_at s (manifest_place s k)

abbrev pub manifest_bytes : List ℕ → ℕ → List ℕ
manifest_bytes s k = take (manifest_length s k) (drop (manifest_place s k + 2) s)

-- ---- the action records: a u16 count, then twelve bytes each; the first is number 0
abbrev pub actions_place : List ℕ → ℕ
actions_place s = manifest_place s (manifest_count s)

abbrev pub action_count : List ℕ → ℕ
action_count s = u16_at s (actions_place s)

abbrev pub record_place : List ℕ → ℕ → ℕ
record_place s i = actions_place s + 2 + 12 * i

abbrev pub record_bytes : List ℕ → ℕ → List ℕ
record_bytes s i = take 12 (drop (record_place s i) s)

-- ---- a tape: counts and lengths not above their most, and the records end with the last byte
unfoldable pub lengths_fit : List ℕ → ℕ → Bool
lengths_fit s zero = true
lengths_fit s (suc k) = lengths_fit s k && leb (manifest_length s k) 1024

unfoldable pub is_tape : List ℕ → Bool
is_tape s =
    leb (manifest_count s) 32
    && (lengths_fit s (manifest_count s)
    && (leb (action_count s) 2048 && eqb (record_place s (action_count s)) (length s)))

-- ---- what the tape asks for
-- the code of record i, and the manifest's place that its field b names
abbrev pub code_at : List ℕ → ℕ → ℕ
code_at s i = u8_at s (record_place s i)

abbrev pub place_named : List ℕ → ℕ → ℕ
place_named s i = u16_at s (record_place s i + 2)

-- the bytes handed for a place: none past the last manifest
abbrev pub handed : List ℕ → ℕ → List ℕ
handed s place = cond (ltb place (manifest_count s)) (manifest_bytes s place) []

abbrev pub action_at : List ℕ → ℕ → Action
action_at s i = action_of (record_bytes s i) (handed s (place_named s i))

-- the first n actions, newest first; all of them
unfoldable pub actions_before : List ℕ → ℕ → List Action
actions_before s zero = []
actions_before s (suc i) = action_at s i ∷ actions_before s i

abbrev pub actions_of : List ℕ → List Action
actions_of s = actions_before s (action_count s)
