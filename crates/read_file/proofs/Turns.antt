-- One turn of the walk: what the file has at c decides how its boxes run.
-- Assumes nothing.
use Prim.Native.Nat.{ℕ, ◌+◌, ◌≤◌}
use native.Mathlib.Omega.{arith}
use mathlib.Core.Path.{◌≡◌, refl, sym, ap, subst, ◌∙◌}
use mathlib.Core.Bool.{true, false}
use mathlib.Core.List.{List}
use Rattle.std.specs.Prelude.{Option, Some}
use Rattle.std.specs.Prelude as std
use lib.ListN.{length, drop}
use Rattle.box_number.specs.Number.{part}
use Rattle.box_number.specs.Table.{◌=?◌, ◌or◌, holds}
use Rattle.box_number.proofs.Rows.{Says, row, each, either, said, not_both}
use Rattle.box_number.proofs.Indices.{decide}
use Rattle.box_kind.specs.Kind.{kind_of, tag, ◌is◌, is_image_header}
use Rattle.box_header.specs.declared.Jp2BoxHeader.{Jp2BoxHeader}
use Rattle.box_header.proofs.Headers.{header-least}
use Rattle.box_header.specs.Box.{largest, length_of_header, box_length, header_of}
use Rattle.box_kind.specs.declared.Jp2BoxType.{Jp2BoxType}
use Rattle.box_kind.specs.declared.Jp2BoxType.TheVariants.{None, JPIP, JP, FTYP, JP2H, IHDR, COLR, JP2C, URL, PCLR, CMAP, CDEF, DTBL, BPCC, JP2, RES, JP2I, XML, UUID, UINF, Unknown}
use mathlib.Core.Logic.{◌⊎◌, ⊎_elim}
use Rattle.read_record.specs.declared.Jp2.{Jp2}
use Rattle.read_record.specs.Answer.{Result}
use Rattle.read_jp2h.specs.Split.{first_box, boxes}
use Rattle.read_jp2h.specs.HeaderBox.{header_box}
use Rattle.read_jp2h.proofs.Ways.{box-child, box-jp2h}
use Rattle.read_rules.proofs.Headers.{run_none, run-missing, run-there}
use Rattle.read_file.specs.declared.Found.{Found}
use Rattle.read_file.specs.declared.Found.TheVariants.{Codestream, Short, Past, Whole}
use Rattle.read_rules.specs.File.{Walked, ended, file_refused, then_walk, stream, other, is_read, past_end, outer, run}
use Rattle.read_file.specs.Private.Turn.{found, Heads, box_with, box_at, is_early, header_or_skipped}

stream_no : (k : Jp2BoxType) → (k ≡ JP2C → ⊥) → false ≡ holds (k is JP2C)
stream_no None h = refl
stream_no JPIP h = refl
stream_no JP h = refl
stream_no FTYP h = refl
stream_no JP2H h = refl
stream_no IHDR h = refl
stream_no COLR h = refl
stream_no JP2C h = absurd (h refl)
stream_no URL h = refl
stream_no PCLR h = refl
stream_no CMAP h = refl
stream_no CDEF h = refl
stream_no DTBL h = refl
stream_no BPCC h = refl
stream_no JP2 h = refl
stream_no RES h = refl
stream_no JP2I h = refl
stream_no XML h = refl
stream_no UUID h = refl
stream_no UINF h = refl
stream_no (Unknown n) h = refl

pub not_stream : {k : Jp2BoxType} (n : ℕ) → k ≡ kind_of n → (k ≡ JP2C → ⊥) → tag (kind_of n) ≡ tag JP2C → ⊥
not_stream {k} n e h = subst (λ (x : Jp2BoxType). tag x ≡ tag JP2C → ⊥) e (said false (k is JP2C) (sym (stream_no k h)))

-- a kind is jp2h or one inside it
abbrev pub InHeader : Jp2BoxType → Type 0
InHeader k = (k ≡ JP2H) ⊎ ((k ≡ IHDR) ⊎ ((k ≡ BPCC) ⊎ ((k ≡ COLR) ⊎ ((k ≡ PCLR) ⊎ ((k ≡ CMAP) ⊎ (k ≡ CDEF))))))

-- what holds of these seven holds of such a kind
in_header : (P : Jp2BoxType → Type 0) → P JP2H → P IHDR → P BPCC → P COLR → P PCLR → P CMAP → P CDEF → (k : Jp2BoxType) → InHeader k → P k
in_header P a b c d e f g k h = ⊎_elim (λ x. subst P (sym x) a) (⊎_elim (λ x. subst P (sym x) b) (⊎_elim (λ x. subst P (sym x) c) (⊎_elim (λ x. subst P (sym x) d) (⊎_elim (λ x. subst P (sym x) e) (⊎_elim (λ x. subst P (sym x) f) (λ x. subst P (sym x) g)))))) h

-- a kind of these is jp2h or one inside it
pub of_header : (k : Jp2BoxType) → InHeader k → Says true (k is JP2H or is_image_header k)
of_header k h = said true (k is JP2H or is_image_header k) (in_header (λ (l : Jp2BoxType). holds (l is JP2H or is_image_header l) ≡ true) refl refl refl refl refl refl refl k h)

-- a kind that is not read
abbrev pub Unread : Jp2BoxType → Type 0
Unread k = (k ≡ JP → ⊥) × (k ≡ FTYP → ⊥) × (k ≡ JP2H → ⊥) × (k ≡ IHDR → ⊥) × (k ≡ COLR → ⊥) × (k ≡ PCLR → ⊥) × (k ≡ CMAP → ⊥) × (k ≡ CDEF → ⊥) × (k ≡ BPCC → ⊥)

read_no : (k : Jp2BoxType) → Unread k → holds (is_read k) ≡ false
read_no None h = refl
read_no JPIP h = refl
read_no JP h = absurd (h.0 refl)
read_no FTYP h = absurd (h.1 refl)
read_no JP2H h = absurd (h.2 refl)
read_no IHDR h = absurd (h.3 refl)
read_no COLR h = absurd (h.4 refl)
read_no JP2C h = refl
read_no URL h = refl
read_no PCLR h = absurd (h.5 refl)
read_no CMAP h = absurd (h.6 refl)
read_no CDEF h = absurd (h.7 refl)
read_no DTBL h = refl
read_no BPCC h = absurd (h.8 refl)
read_no JP2 h = refl
read_no RES h = refl
read_no JP2I h = refl
read_no XML h = refl
read_no UUID h = refl
read_no UINF h = refl
read_no (Unknown n) h = refl

pub not_read : (k : Jp2BoxType) → Unread k → Says false (is_read k)
not_read k h = said false (is_read k) (read_no k h)

-- the two lengths of a header that was read from c
pub heads_long : {at : ℕ} {c : List ℕ} {h : Jp2BoxHeader} → Heads at c h → h.length ≡ box_length c
heads_long p = ap (λ (x : Jp2BoxHeader). x.length) p.same

pub heads_head : {at : ℕ} {c : List ℕ} {h : Jp2BoxHeader} → Heads at c h → h.header_length ≡ length_of_header c
heads_head p = ap (λ (x : Jp2BoxHeader). x.header_length) p.same

-- the box of a header that was read from c
pub whole-box : {at : ℕ} {c : List ℕ} {h : Jp2BoxHeader} {content : List ℕ} → Heads at c h → content ≡ part c h.header_length h.length → box_with h.ty at (at + h.header_length) content ≡ first_box at c
whole-box p e = let q = p.same in cc

-- a box of the file that is jp2h or belongs into it
module _ (kind : Jp2BoxType) (place start : ℕ) (c : List ℕ) (k : Jp2) (of : InHeader kind) (room : start + length c ≤ largest) where
  p : tag kind ≡ tag JP → ⊥
  p = said false (kind is JP) (in_header (λ (l : Jp2BoxType). holds (l is JP) ≡ false) refl refl refl refl refl refl refl kind of)

  q : tag kind ≡ tag FTYP → ⊥
  q = said false (kind is FTYP) (in_header (λ (l : Jp2BoxType). holds (l is FTYP) ≡ false) refl refl refl refl refl refl refl kind of)

  outer-read : Says false (is_early kind k.status.state) → header_box kind place start c k ≡ outer (box_with kind place start c) k
  unfolding outer
  outer-read e = either (holds (kind is JP2H)) at-jp2h at-child
    where
      at-jp2h : holds (kind is JP2H) ≡ true → header_box kind place start c k ≡ outer (box_with kind place start c) k
      at-jp2h b = let z = said true (kind is JP2H) b in row 2 _ (p, (q, z)) (box-jp2h kind place start c k room z)

      at-child : holds (kind is JP2H) ≡ false → header_box kind place start c k ≡ outer (box_with kind place start c) k
      at-child b = let z = said false (kind is JP2H) b in row 4 _ (p, (q, (z, ((λ _. e z), of_header kind of z)))) (box-child kind place start c k room z)

  pub outer-header : header_or_skipped kind place start c k ≡ outer (box_with kind place start c) k
  unfolding header_or_skipped outer
  outer-header = each (λ (x : Result). x ≡ outer (box_with kind place start c) k) _ ((λ h. row 3 _ (p, (q, (h.0, (of_header kind of h.0, h.1)))) refl), outer-read)

-- a box of the file that is not read
pub outer-other : (kind : Jp2BoxType) (place start : ℕ) (c : List ℕ) (k : Jp2) → Unread kind → other (box_at kind place start) k ≡ outer (box_with kind place start c) k
unfolding outer
outer-other kind place start c k h =
    let n = not_read kind h in
    row 5 _ (n.0.0, (n.0.1.0, (n.0.1.1, ((λ i. absurd (not_both (is_image_header kind) i n.1)), (n.1, tt))))) refl

module _ (at : ℕ) (c : List ℕ) (k : Jp2) where
  -- the boxes of c run to w
  abbrev Runs : Walked → Type 0
  Runs w = run (boxes at c) k ≡ w

  -- what the file has at c decides how the boxes of c run
  abbrev pub Tells : Option Found → Type 0
  Tells std.None = Runs (ended k)
  Tells (Some (Codestream m)) = (m ≤ length c) × Runs (stream (box_at JP2C at (at + m)) k)
  Tells (Some Short) = Runs (file_refused 3 at)
  Tells (Some (Past h)) = Runs (past_end (box_at h.ty at 0) k)
  Tells (Some (Whole h)) = (h ≡ header_of c) × (length_of_header c ≤ box_length c) × (box_length c ≤ length c) × Runs (then_walk (outer (first_box at c) k) (λ m. run (boxes (at + box_length c) (drop (box_length c) c)) m))

  pub found-tells : {r f : Option Found} → r ≡ found c → r ≡ f → Tells f
  unfolding found
  found-tells e f =
      subst Tells (sym e ∙ f)
      (each Tells _ (
        (λ h. decide (length c =? 0) (λ z. run_none at c k z) (λ z. run-missing at c k z h)),
        λ h.
            let there = run-there at c k (λ z. omega (arith, header-least c)) h.0 h.1 in (
              (λ t. (h.0, there ∙ sym (row 0 _ t refl))),
              λ t. (
                (λ s. there ∙ sym (row 1 _ (t, s) refl)),
                λ s.
                    ((λ p. there ∙ sym (row 2 _ (t, (s, p)) refl)), λ p. (refl, s, p, there ∙ sym (row 3 _ (t, (s, (p, tt))) refl))),
              ),
            ),
      ))
