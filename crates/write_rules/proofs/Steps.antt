-- Reading a box that was written, and going on after it: inside jp2h, in the file, and at the codestream.
-- Assumes nothing.
use Prim.Native.Nat.{ℕ, zero, suc, ◌+◌, ◌≤◌, ◌<◌}
use mathlib.Core.Path.{◌≡◌, refl, sym, ap, ◌∙◌}
use mathlib.Core.List.{List, [], ◌++◌}
use native.Mathlib.Nat.{add-zero}
use native.Mathlib.Omega.{arith}
use lib.ListN.{length, length-append}
use Rattle.box_number.specs.Table.{◌<?◌}
use Rattle.box_number.proofs.Rows.{row}
use Rattle.box_kind.proofs.KindNumbers.{kinds_and_numbers}
use Rattle.box_kind.specs.Kind.{kind_of, number_of, tag}
use Rattle.box_kind.specs.declared.Jp2BoxType.{Jp2BoxType}
use Rattle.box_kind.specs.declared.Jp2BoxType.TheVariants.{JP2C}
use Rattle.box_header.specs.Box.{length_of_header, box_length}
use Rattle.read_record.specs.declared.Jp2.{Jp2}
use Rattle.read_record.specs.Record.{with_state}
use Rattle.read_record.specs.State.{header_bit, with_bit}
use Rattle.read_record.specs.Answer.{accepted}
use Rattle.read_jp2h.specs.Split.{Box, past, ◌▸◌, first_box, split}
use Rattle.read_jp2h.specs.Child.{child}
use Rattle.read_jp2h.specs.Jp2h.{read_all}
use Rattle.read_rules.specs.File.{Walked, codestream, stream, outer, run}
use Rattle.box_number.proofs.Indices.{decide}
use Rattle.write_rules.specs.Box.{box_header, box}
use Rattle.write_rules.proofs.Lengths.{length-header, length-box}
use Rattle.write_rules.proofs.Splitting.{box_at, split-box, lbox, tbox, header_is, long}

-- inside jp2h: reading c and then rest, from k on, is reading rest from m on
pub record Reads (n at : ℕ) (c rest : List ℕ) (k m : Jp2) : Type 0 where
  pub fuel : ℕ
  pub enough : length rest ≤ fuel
  pub same : read_all (split n at (c ++ rest)) k ≡ read_all (split fuel (at + length c) rest) m

-- in the file
pub record Walks (n at : ℕ) (c rest : List ℕ) (k m : Jp2) : Type 0 where
  pub fuel : ℕ
  pub enough : length rest ≤ fuel
  pub same : run (split n at (c ++ rest)) k ≡ run (split fuel (at + length c) rest) m

-- a box that is not there
pub no-child : (n at : ℕ) (rest : List ℕ) (k : Jp2) → length rest ≤ n → Reads n at [] rest k k
no-child n at rest k h = record { fuel = n; enough = h; same = rw add-zero refl }

-- after the last
pub no_more : (n at : ℕ) (k : Jp2) → read_all (split n at []) k ≡ accepted k
unfolding split read_all
no_more zero at k = refl
no_more (suc n) at k = ap (λ bs. read_all bs k) (sym (row 0 _ refl refl))

module _ (type : Jp2BoxType) (content rest : List ℕ) (small : 8 + length content ≤ 4294967295) (known : number_of type < 4294967296) where
  both : length (box type content ++ rest) ≡ 8 + length content + length rest
  both = simp (length-append, length-box)

  pub child-box : (n at : ℕ) (k m : Jp2) → length (box type content ++ rest) ≤ n → child (box_at type at content) k ≡ accepted m → Reads n at (box type content) rest k m
  unfolding read_all
  child-box zero at k m h e = absurd (omega (arith, both))
  child-box (suc n) at k m h e = record { fuel = n; enough = omega (arith, both); same = rw (split-box type content rest small known n at, e, length-box) refl }

  pub file-box : (n at : ℕ) (k m : Jp2) → (tag (kind_of (number_of type)) ≡ tag JP2C → ⊥) → length (box type content ++ rest) ≤ n → outer (box_at type at content) k ≡ accepted m → Walks n at (box type content) rest k m
  unfolding run
  file-box zero at k m t h e = absurd (omega (arith, both))
  file-box (suc n) at k m t h e =
      record {
        fuel = n;
        enough = omega (arith, both);
        same = rw (split-box type content rest small known n at) (sym (row 1 _ (t, tt) refl) ∙ rw (e, length-box) refl);
      }

-- what comes after the box decides
pub onward : {n at : ℕ} {c rest : List ℕ} {k m : Jp2} {w : Walked} → Walks n at c rest k m → (to : ℕ) → at + length c ≡ to → ((fuel : ℕ) → length rest ≤ fuel → run (split fuel to rest) m ≡ w) → run (split n at (c ++ rest)) k ≡ w
onward a to e next = a.same ∙ rw e (next a.fuel a.enough)

-- the codestream is reached, whatever its length
module _ (k : Jp2) (head : header_bit k ≡ 0 → ⊥) where
  abbrev reached : ℕ → Walked
  reached offset = codestream offset (with_state (with_bit 8 k.status.state) k)

  stream-is : (b : Box) → stream b k ≡ reached b.start
  stream-is b = sym (row 1 _ (head, tt) refl)

  past_is : (b : Box) → tag b.kind ≡ tag JP2C → run (past b) k ≡ reached b.start
  unfolding run
  past_is b t = sym (row 0 _ t refl) ∙ stream-is b

  whole_is : (b : Box) → tag b.kind ≡ tag JP2C → (n at : ℕ) (c : List ℕ) → run (b ▸ split n at c) k ≡ reached b.start
  unfolding run
  whole_is b t n at c = sym (row 0 _ t refl) ∙ stream-is b

  pub stream-box : (n at size : ℕ) (rest : List ℕ) → 8 + size ≤ 4294967295 → 8 + length rest ≤ n → run (split n at (box_header JP2C size ++ rest)) k ≡ reached (at + 8)
  unfolding split
  stream-box zero at size rest small enough = absurd (omega arith)
  stream-box (suc n) at size rest small enough =
      let c = box_header JP2C size ++ rest in
      let known : number_of JP2C < 4294967296 = omega arith in
      let l = lbox JP2C size rest small known in
      let t = ap (λ (m : ℕ). tag (kind_of m)) (tbox JP2C size rest small known) ∙ ap tag (kinds_and_numbers.kind_back JP2C tt) in
      let h = header_is JP2C size rest small known in
      let b = long JP2C size rest small known in
      let s : length c ≡ 8 + length rest = simp (length-append, length-header) in
      let start : reached (at + length_of_header c) ≡ reached (at + 8) = ap (λ (x : ℕ). reached (at + x)) h in
      decide (length c <? box_length c)
      (λ p. ap (λ bs. run bs k) (sym (row 5 _ (omega arith) refl)) ∙ past_is (first_box at c) t ∙ start)
      (λ p. ap (λ bs. run bs k) (sym (row 6 _ (omega arith) refl)) ∙ whole_is (first_box at c) t n _ _ ∙ start)
