-- One turn of a loop over a table's entries.
use Rattle.std.proofs.Common.{ℕ, ◌+◌, ◌<◌, ◌≤◌, ◌≡◌, Bool, true, false, cond, List, [], ◌∷◌, ◌++◌}
use Rattle.std.proofs.Common.{length, take, drop, get_or}
use Rattle.std.proofs.Common.{sym, ap, ◌∙◌, arith, length-take}
use Rattle.std.proofs.lemmas.List.{append-nil, take_min, drop_min}
use Rattle.std.proofs.lemmas.List.Elements.{filter_more}
use Rattle.rules.specs.Lists.{keep}
use Rattle.rules.specs.ListsLaws.{length-keep}
use Rattle.state.specs.Listed.{table_of, appended}
use Rattle.tables.specs.HeldLaws.{entry-more}

module _ {A : Type 0} (test : A → Bool) (l : List A) (i : ℕ) (x : A) (h : i < length l) (e : x ≡ get_or l i x) where
  more : (b : Bool) → test x ≡ b → keep test (take (i + 1) l) ≡ keep test (take i l) ++ cond b (x ∷ []) []
  more b q = filter_more test l i x h ∙ rw (← e, q)

  -- an entry that fails the test changes nothing
  pub drop-one : test x ≡ false → keep test (take i l) ≡ keep test (take (i + 1) l)
  drop-one q = sym (more false q ∙ append-nil _)

  -- one that passes is one more of those kept
  pub keep-one : (z : A) (room : ℕ) → length l ≤ room → test x ≡ true
      → appended room (table_of z room (keep test (take i l))) x ≡ table_of z room (keep test (take (i + 1) l))
  keep-one z room fits q =
      entry-more z room (keep test (take i l)) x (omega (arith, length-keep test (take i l), length-take i l))
      ∙ ap (table_of z room) (sym (more true q))

-- the places of a list's front are those of its count
module _ {A : Type 0} (k : ℕ) (l : List A) where
  pub front : take (length (take k l)) l ≡ take k l
  front = rw (length-take k l) (take_min k l)

  pub back : drop (length (take k l)) l ≡ drop k l
  back = rw (length-take k l) (drop_min k l)
