-- Fields: how long they are, and that fields written one after the other are a line.
use Prim.Native.Nat.{ℕ, ◌+◌, ◌<◌, ◌≤◌, ◌^◌}
use mathlib.Core.Path.{◌≡◌, sym, ap, subst, ◌∙◌}
use mathlib.Core.List.{List, [], ◌∷◌}
use lib.ListN.{length, length-append}
use native.Mathlib.Omega.{arith}
use Rattle.std.specs.Fmt.{decimal as printed}
use Rattle.std.proofs.lemmas.Fmt.{length-decimal-le}
use Rattle.rules.specs.declared.Ground.{Ground}
use Rattle.rules.specs.declared.Ground.TheVariants.{Nothing, Owner, Permission, LoanToInstance, LoanToApp}
use Rattle.rules.specs.declared.Reason.{Reason}
use Rattle.rules.specs.declared.Reason.TheVariants.{StateNotValid, MalformedAction, MalformedManifest, AlreadyThere}
use Rattle.rules.specs.declared.Reason.TheVariants.{NoSuchApp, NoSuchComponent, NoSuchInstance, NoSuchResource}
use Rattle.rules.specs.declared.Reason.TheVariants.{Undefined, CannotBeGranted, NotPermitted, NothingToTakeBack, InUse}
use Rattle.rules.specs.declared.Reason.TheVariants.{PartOfTheImage, NoRoom}
use Rattle.rules.specs.Answer.{Answer, done, refused, number_of, ground_number, line_of}
use Rattle.history.specs.Sheet.{digits_within, decimal, field, field_or_none, answer_text, line_text, end_text}
use Rattle.history.specs.Sheet.{running_text, lent_text}
use Rattle.history.specs.Run.{counts_text}
use Rattle.tape.specs.Written.{Written}
use Rattle.tape.proofs.Writing.{then}
use Rattle.tape.proofs.Decimal.{as-printed}

pub length-field : (n b : ℕ) → length (field n b) ≡ length (decimal n) + 1
length-field n b = length-append (decimal n) (b ∷ [])

-- the same, as the library prints the number
pub length-printed : (n b : ℕ) → n < 2 ^ 64 → length (field n b) ≡ length (printed n) + 1
length-printed n b h = length-field n b ∙ ap (λ (t : List ℕ). length t + 1) (as-printed n h)

field-most : (k n b : ℕ) → 0 < k → n < 10 ^ k → n < 2 ^ 64 → length (field n b) ≤ k + 1
field-most k n b p h l = omega (arith, length-printed n b l, length-decimal-le k n p h l)

-- a code, the place of an action, a value and a count, each with the byte after it
pub code-field : (n b : ℕ) → n < 256 → length (field n b) ≤ 4
code-field n b h = field-most 3 n b (omega arith) (omega arith) (omega arith)

pub place-field : (n b : ℕ) → n < 10000 → length (field n b) ≤ 5
place-field n b h = field-most 4 n b (omega arith) (omega arith) (omega arith)

pub value-field : (n b : ℕ) → n < 4294967296 → length (field n b) ≤ 11
value-field n b h = field-most 10 n b (omega arith) (omega arith) (omega arith)

pub count-field : (n b : ℕ) → n < 2 ^ 64 → length (field n b) ≤ 21
count-field n b h = field-most 20 n b (omega arith) (omega arith) (omega arith)

-- a ground has one digit and a refusal at most two
ground-small : (g : Ground) → ground_number g < 10
ground-small Nothing = omega arith
ground-small Owner = omega arith
ground-small Permission = omega arith
ground-small LoanToInstance = omega arith
ground-small LoanToApp = omega arith

number_small : (r : Reason) → number_of r < 100
number_small StateNotValid = omega arith
number_small MalformedAction = omega arith
number_small MalformedManifest = omega arith
number_small AlreadyThere = omega arith
number_small NoSuchApp = omega arith
number_small NoSuchComponent = omega arith
number_small NoSuchInstance = omega arith
number_small NoSuchResource = omega arith
number_small Undefined = omega arith
number_small CannotBeGranted = omega arith
number_small NotPermitted = omega arith
number_small NothingToTakeBack = omega arith
number_small InUse = omega arith
number_small PartOfTheImage = omega arith
number_small NoRoom = omega arith

pub ground-field : {a : Answer} {g : Ground} {v : ℕ} (n b : ℕ) → a ≡ done g v → n ≡ ground_number g
    → length (field n b) ≤ 2
ground-field {g = g} n b e f = let h = ground-small g in field-most 1 n b (omega arith) (omega arith) (omega arith)

pub number-field : {a : Answer} {r : Reason} (n b : ℕ) → a ≡ refused r → n ≡ number_of r → length (field n b) ≤ 3
number-field {r = r} n b e f = let h = number_small r in field-most 2 n b (omega arith) (omega arith) (omega arith)

-- ---- lines
pub same-field : {l m : List ℕ} {i j n x : ℕ} (b : ℕ) → n ≡ x → Written l i (field n b) m j
    → Written l i (field x b) m j
same-field {l} {m} {i} {j} b e w = subst (λ (k : ℕ). Written l i (field k b) m j) e w

pub done-written : {l m n o : List ℕ} {i j k h v x : ℕ} {g : Ground} {a : Answer} → a ≡ done g v
    → x ≡ ground_number g → Written l i (48 ∷ 32 ∷ []) m j → Written m j (field x 32) n k → Written n k (field v 10) o h
    → Written l i (answer_text a) o h
unfolding answer_text line_of field_or_none decimal digits_within
done-written {l} {o = o} {i} {h = h} e p u v w =
    subst (λ (t : Answer). Written l i (answer_text t) o h) (sym e) (then u (then (same-field 32 p v) w))

pub refused-written : {l m n : List ℕ} {i j k x : ℕ} {r : Reason} {a : Answer} → a ≡ refused r
    → x ≡ number_of r → Written l i (field x 32) m j → Written m j (45 ∷ 32 ∷ 45 ∷ 10 ∷ []) n k
    → Written l i (answer_text a) n k
unfolding answer_text line_of field_or_none
refused-written {l} {n = n} {i} {k = k} e p v w =
    subst (λ (t : Answer). Written l i (answer_text t) n k) (sym e) (then (same-field 32 p v) w)

pub line-written : {l m n o : List ℕ} {i j k h : ℕ} (place code : ℕ) (a : Answer) → Written l i (field place 32) m j
    → Written m j (field code 32) n k → Written n k (answer_text a) o h → Written l i (line_text place code a) o h
unfolding line_text
line-written place code a u v w = then u (then v w)

pub counts-written : {l m n o p q r : List ℕ} {h i j k f d e : ℕ} (x y z : ℕ) → Written l h end_text m i
    → Written m i (field x 32) n j → Written n j running_text o k → Written o k (field y 32) p f
    → Written p f lent_text q d → Written q d (field z 10) r e → Written l h (counts_text x y z) r e
unfolding counts_text
counts-written x y z s t u v w a = then s (then t (then u (then v (then w a))))
