-- The ways through a box of the header: the answer of its loop is that of its definition.
-- Assumes nothing.
use Prim.Native.Nat.{ℕ, ◌+◌, ◌≤◌}
use native.Mathlib.Omega.{arith}
use mathlib.Core.Path.{◌≡◌, refl, sym, ap, subst, ◌∙◌}
use mathlib.Core.Bool.{Bool, true, false, not, ◌&&◌}
use mathlib.Core.List.{List}
use lib.ListN.{length}
use Rattle.box_number.proofs.Rows.{row, each, true_false, said}
use Rattle.box_number.specs.Table.{holds}
use borrow.Author.Tests.{not-true, not-false}
use Rattle.box_kind.specs.Kind.{tag, ◌is◌}
use Rattle.box_header.specs.Box.{largest}
use Rattle.box_kind.specs.declared.Jp2BoxType.{Jp2BoxType}
use Rattle.box_kind.specs.declared.Jp2BoxType.TheVariants.{JP2H}
use Rattle.read_record.specs.declared.Jp2.{Jp2}
use Rattle.read_record.specs.declared.Status.{Status}
use Rattle.read_record.specs.Record.{with_status}
use Rattle.read_record.specs.State.{file_type_bit}
use Rattle.read_record.specs.Answer.{Result, accepted, refused}
use Rattle.box_refusal.specs.Told.{Told}
use Rattle.read_jp2h.specs.Split.{boxes}
use Rattle.read_jp2h.specs.Child.{reader}
use Rattle.read_jp2h.specs.Jp2h.{read_all, lacks_ihdr, jp2h, jp2h_alone}
use Rattle.read_jp2h.specs.HeaderBox.{header_box}
use Rattle.read_jp2h.specs.Private.Step.{admitted, opened, closed}
use Rattle.read_jp2h.proofs.Going.{Going}

and_true : (b : Bool) → (b && true) ≡ b
and_true true = refl
and_true false = refl

-- the answer of the loop, and whether an ihdr lacks, by whether the box is alone; k is the record before the first box
abbrev pub whole : Jp2BoxType → ℕ → ℕ → List ℕ → Jp2 → Bool → Result
whole kind place start c k true = reader kind place start c k
whole kind place start c k false = read_all (boxes start c) k

abbrev pub lack : ℕ → List ℕ → Bool → Bool
lack start c true = false
lack start c false = lacks_ihdr (boxes start c)

pub going_start : (kind : Jp2BoxType) (place start : ℕ) (c : List ℕ) (k : Jp2) (alone : Bool) → start + length c ≤ largest → Going kind place (whole kind place start c k alone) (lack start c alone) alone start c (not alone) k
going_start kind place start c k true h = record { fuel = length c; enough = omega arith; room = h; left = (refl, refl, refl) }
going_start kind place start c k false h = record { fuel = length c; enough = omega arith; room = h; left = (refl, and_true (lacks_ihdr (boxes start c))) }

-- jp2h is a box of the header
pub box-alone : (place start : ℕ) (c : List ℕ) (j : Jp2) → header_box JP2H place start c j ≡ jp2h_alone place start c j
unfolding header_box jp2h_alone
box-alone place start c j = each (λ (r : Result). r ≡ jp2h_alone place start c j) _ ((λ h. row 0 _ h refl), λ h. ((λ f. row 1 _ (h, tt) refl), λ f. absurd (f refl)))

module _ (kind : Jp2BoxType) (place start : ℕ) (c : List ℕ) (j : Jp2) where
  -- a box of the header within a file
  module _ (room : start + length c ≤ largest) where
    pub box-child : (tag kind ≡ tag JP2H → ⊥) → header_box kind place start c j ≡ reader kind place start c j
    unfolding header_box
    box-child i = sym (row 2 _ (room, (i, tt)) refl)

    pub box-jp2h : tag kind ≡ tag JP2H → header_box kind place start c j ≡ jp2h place start c j
    unfolding header_box
    box-jp2h i = sym (row 1 _ (room, i) refl)

  -- what is known of a box that is alone, and of jp2h
  abbrev Kind : Bool → Type 0
  Kind true = tag kind ≡ tag JP2H → ⊥
  Kind false = tag kind ≡ tag JP2H

  kind-by : (alone : Bool) → alone ≡ not (holds (kind is JP2H)) → Kind alone
  kind-by true a = said false (kind is JP2H) (not-true (holds (kind is JP2H)) (sym a))
  kind-by false a = said true (kind is JP2H) (not-false (holds (kind is JP2H)) (sym a))

  module _ (alone : Bool) (a : alone ≡ not (holds (kind is JP2H))) where
    -- the box is refused before its content is read, or this is known
    abbrev pub Fit : Type 0
    Fit = (start + length c ≤ largest) × (alone ≡ false → file_type_bit j ≡ 0 → ⊥)

    abbrev Tells : Told Unit → Type 0
    Tells (refused n p) = refused n p ≡ header_box kind place start c j
    Tells (accepted u) = Fit

    pub box-begins : {t : Told Unit} → t ≡ admitted alone place start c j.status.state → Tells t
    unfolding admitted header_box jp2h
    box-begins e =
        subst Tells (sym e)
        (each Tells _ (
          (λ h. row 0 _ h refl),
          λ h. (
            (λ t. row 1 _ (h, subst Kind (not-true alone t.0) (kind-by alone a)) (row 0 _ t.1 refl)),
            λ t. (h, λ g. t (ap not g)),
          ),
        ))

  stop : (alone : Bool) (a : alone ≡ not (holds (kind is JP2H))) → Fit alone a → {n p : ℕ} → whole kind place start c (with_status (opened alone j.status) j) alone ≡ refused n p → refused n p ≡ header_box kind place start c j
  unfolding header_box jp2h
  stop true a f e = row 2 _ (f.0, (kind-by true a, tt)) (sym e)
  stop false a f e = row 1 _ (f.0, kind-by false a) (row 1 _ (f.1 refl, tt) (rw e))

  lacks : (alone : Bool) (a : alone ≡ not (holds (kind is JP2H))) → Fit alone a → {k : Jp2} → whole kind place start c (with_status (opened alone j.status) j) alone ≡ accepted k → lack start c alone ≡ true → refused 12 place ≡ header_box kind place start c j
  unfolding header_box jp2h
  lacks true a f e l = true_false (sym l)
  lacks false a f e l = row 1 _ (f.0, kind-by false a) (row 1 _ (f.1 refl, tt) (rw e (row 0 _ l refl)))

  done : (alone : Bool) (a : alone ≡ not (holds (kind is JP2H))) → Fit alone a → {k m : Jp2} → whole kind place start c (with_status (opened alone j.status) j) alone ≡ accepted k → lack start c alone ≡ false → m ≡ with_status (closed alone k.status) k → accepted m ≡ header_box kind place start c j
  unfolding header_box jp2h
  done true a f e l q = row 2 _ (f.0, (kind-by true a, tt)) (ap accepted q ∙ sym e)
  done false a f e l q = row 1 _ (f.0, kind-by false a) (row 1 _ (f.1 refl, tt) (rw e (row 1 _ (l, tt) (ap accepted q))))

  -- the status before the first box
  module _ (alone : Bool) (a : alone ≡ not (holds (kind is JP2H))) (f : Fit alone a) {s : Status} (q : s ≡ opened alone j.status) where
    abbrev Answers : Result → Type 0
    Answers r = whole kind place start c (with_status s j) alone ≡ r

    -- the answer of the loop, by that of the box
    box-is : {r : Result} → Answers r → whole kind place start c (with_status (opened alone j.status) j) alone ≡ r
    box-is {r} e = subst (λ (x : Status). whole kind place start c (with_status x j) alone ≡ r) q e

    pub box-stop : {n p : ℕ} → Answers (refused n p) → refused n p ≡ header_box kind place start c j
    box-stop e = stop alone a f (box-is e)

    pub box-lacks : {k : Jp2} → Answers (accepted k) → lack start c alone ≡ true → refused 12 place ≡ header_box kind place start c j
    box-lacks e l = lacks alone a f (box-is e) l

    pub box-done : {k m : Jp2} → Answers (accepted k) → lack start c alone ≡ false → m ≡ with_status (closed alone k.status) k → accepted m ≡ header_box kind place start c j
    box-done e l m = done alone a f (box-is e) l m
