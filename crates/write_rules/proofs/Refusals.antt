-- Each row of the table of writing names a number from 29 to 34; the destination is changed at its start alone.
-- Assumes nothing.
use Prim.Native.Nat.{ℕ, ◌+◌, ◌-◌, ◌≤◌}
use native.Mathlib.Nat.{zero-add}
use native.Mathlib.Omega.{arith}
use mathlib.Core.Path.{◌≡◌, refl, sym, subst, ◌∙◌}
use mathlib.Core.List.{List, ◌++◌}
use lib.ListN.{length, get_or, drop, get_or-append}
use lib.Seq.{get_or-append-add, get_or-drop}
use Rattle.box_number.specs.Number.{placed}
use Rattle.box_number.proofs.Placing.{length-placed}
use Rattle.box_number.proofs.Rows.{each}
use Rattle.write_rules.specs.declared.Fields.{Fields}
use Rattle.box_refusal.specs.Told.{accepted}
use Rattle.write_rules.specs.Request.{Request}
use Rattle.write_rules.specs.Setup.{fields_of, set_up}
use Rattle.write_rules.specs.Writing.{Writing, written, declined, write_fields, after_set_up, write, destination}
use Rattle.write_rules.specs.Refusals.{WritingNumbers, AtStart, DestinationAfter}

abbrev Numbered : Writing → Type 0
Numbered (written bytes) = Unit
Numbered (declined number place) = (29 ≤ number) × (number ≤ 34)

fields-numbered : (r : Request) (s : Fields) → Numbered (after_set_up r (accepted s))
unfolding write_fields
fields-numbered r s = each Numbered _ ((λ _. (omega arith, omega arith)), λ _. ((λ _. (omega arith, omega arith)), λ _. ((λ _. (omega arith, omega arith)), λ _. tt)))

write-numbered : (r : Request) → Numbered (write r)
unfolding write set_up
write-numbered r =
    each (λ x. Numbered (after_set_up r x)) _
    ((λ _. (omega arith, omega arith)), λ _. ((λ _. (omega arith, omega arith)), λ _. ((λ _. (omega arith, omega arith)), λ _. fields-numbered r (fields_of r))))

pub writing_numbers : WritingNumbers
writing_numbers r number place e = subst Numbered e (write-numbered r)

module _ (d bs : List ℕ) (room : length bs ≤ length d) where
  rest-kept : (i : ℕ) → length bs ≤ i → get_or (bs ++ drop (length bs) d) i 0 ≡ get_or d i 0
  rest-kept i l =
      let e : i ≡ length bs + (i - length bs) = omega arith in
      subst (λ (k : ℕ). get_or (bs ++ drop (length bs) d) k 0 ≡ get_or d k 0) (sym e) (get_or-append-add bs (drop (length bs) d) (i - length bs) 0 ∙ get_or-drop (length bs) d (i - length bs) 0)

  at-start : AtStart d bs (destination d (written bs))
  unfolding destination placed
  at-start =
      record {
        long = length-placed d 0 bs (omega arith);
        bytes = λ i l. get_or-append bs (drop (0 + length bs) d) 0 i l;
        rest = λ i l. rw zero-add (rest-kept i l);
      }

pub destination-after : DestinationAfter
unfolding destination
destination-after d = ((λ bs room. at-start d bs room), λ number place. refl)
