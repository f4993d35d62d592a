-- The rows of writing: what each means for the answer and for the destination.
-- Assumes nothing.
use Prim.Native.Nat.{ℕ, ◌≤◌, ◌<◌}
use native.Mathlib.Omega.{arith}
use mathlib.Core.Path.{◌≡◌, refl, sym, ◌∙◌}
use mathlib.Core.Bool.{Bool, true, false}
use mathlib.Core.List.{List}
use lib.ListN.{length, length-append}
use Rattle.box_number.specs.Number.{placed}
use Rattle.box_number.specs.Table.{◌=?◌, ◌≠?◌, ◌<?◌, ◌or◌, ◌and◌, holds}
use Rattle.box_number.proofs.Rows.{Says, said, row}
use Rattle.box_kind.specs.declared.Jp2BoxType.TheVariants.{JP2C, JP2H}
use Rattle.write_rules.proofs.Lengths.{length-header, length-box, length-signature, length-type}
use Rattle.write_rules.specs.Writing.{Writing, written, declined, front, most_profile, most_codestream, write_fields, destination}
use Rattle.write_rules.specs.declared.Fields.{Fields}
use Rattle.box_refusal.specs.Told.{Told, accepted, refused}
use Rattle.write_boxes.specs.Answers.{answered}
use Rattle.write_rules.specs.Jp2h.{jp2h_content}
use Rattle.write_boxes.specs.Private.Lengths.{length_of_front}
use Rattle.write_boxes.proofs.Lengths.{jp2h-length}

-- what a writing answers, and the destination after it
pub record Done (x : Writing) (r : Told ℕ) (d e : List ℕ) : Type 0 where
  pub value : r ≡ answered x
  pub d_after : e ≡ destination d x

pub declined-done : (x : Writing) {number place : ℕ} (d : List ℕ) → x ≡ declined number place → Done x (refused number place) d d
unfolding answered destination
declined-done x d e = record { value = rw e refl; d_after = rw e refl }

pub written-done : (x : Writing) {bs : List ℕ} {n : ℕ} (d : List ℕ) {e : List ℕ} → x ≡ written bs → n ≡ length bs → e ≡ placed d 0 bs → Done x (accepted n) d e
unfolding answered destination
written-done x d p q r = record { value = rw (p, q) refl; d_after = rw p r }

-- whether the picture has a height and a width
module _ (s : Fields) {valid : Bool} (e : valid ≡ holds (s.h ≠? 0 and s.w ≠? 0)) where
  pub without_area : valid ≡ false → Says true (s.h =? 0 or s.w =? 0)
  without_area h = said false (s.h ≠? 0 and s.w ≠? 0) (sym e ∙ h)

  pub with_area : valid ≡ true → Says false (s.h =? 0 or s.w =? 0)
  with_area h = said true (s.h ≠? 0 and s.w ≠? 0) (sym e ∙ h)

module _ (comps : List ℕ) (s : Fields) (profile : List ℕ) (codestream : ℕ) where
  pub front_length : length (front comps s profile codestream) ≡ length_of_front s (length profile)
  unfolding front
  front_length =
      rw (length-append, length-append, length-append) (omega (arith, length-signature, length-type, length-box JP2H (jp2h_content comps s profile), jp2h-length s comps profile, length-header JP2C codestream))

  module _ (room : ℕ) where
    abbrev x : Writing
    x = write_fields comps s profile codestream room

    pub fields_33 : Says true (s.h =? 0 or s.w =? 0) → x ≡ declined 33 0
    unfolding write_fields
    fields_33 h = sym (row 0 _ h refl)

    module _ (area : Says false (s.h =? 0 or s.w =? 0)) where
      pub fields_34 : Says true (most_profile <? length profile or most_codestream <? codestream) → x ≡ declined 34 0
      unfolding write_fields
      fields_34 h = sym (row 1 _ (area, h) refl)

      module _ (short : length profile ≤ most_profile) (few : codestream ≤ most_codestream) where
        pub fields_30 : {n : ℕ} → n ≡ length_of_front s (length profile) → room < n → x ≡ declined 30 n
        unfolding write_fields
        fields_30 e h = rw (e ∙ sym front_length) (sym (row 2 _ (area, ((short, few), omega (arith, front_length))) refl))

        pub fields-written : length_of_front s (length profile) ≤ room → x ≡ written (front comps s profile codestream)
        unfolding write_fields
        fields-written h = sym (row 3 _ (area, ((short, few), (omega (arith, front_length), tt))) refl)
