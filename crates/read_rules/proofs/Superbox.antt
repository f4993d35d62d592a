-- jp2h: the walk through its boxes, and what it does to the record.
-- Assumes nothing.
use Prim.Native.Nat.{ℕ, zero, suc, ◌+◌, ◌≤◌, ◌<◌}
use mathlib.Core.Path.{◌≡◌, refl, ap, subst}
use mathlib.Core.Bool.{Bool, not, ◌&&◌}
use mathlib.Core.List.{List}
use native.Mathlib.Omega.{arith}
use lib.ListN.{length}
use Rattle.box_number.specs.Table.{◌=?◌, flag, otherwise, ◌⇒◌∣◌, holds, table}
use Rattle.box_number.proofs.Rows.{each}
use Rattle.box_kind.specs.Kind.{kind_of, ◌is◌}
use Rattle.box_kind.specs.declared.Jp2BoxType.TheVariants.{IHDR}
use Rattle.box_header.specs.Box.{LBox, TBox, length_of_header, box_length}
use Rattle.box_header.proofs.Headers.{header-least}
use Rattle.read_record.specs.declared.Jp2.{Jp2}
use Rattle.read_record.specs.Record.{with_imgstate}
use Rattle.read_record.specs.State.{file_type_bit}
use Rattle.read_record.specs.Answer.{Result, accepted, refused, and_then}
use Rattle.read_jp2h.specs.Split.{first_box, split, boxes}
use Rattle.read_jp2h.specs.Child.{child}
use Rattle.read_jp2h.specs.Jp2h.{read_all, lacks_ihdr, with_header_bit, jp2h}
use Rattle.read_rules.specs.File.{ended, then_walk}
use Rattle.read_rules.proofs.Sames.{headed_self}
use Rattle.read_rules.proofs.Parts.{Whole, content, rest, Lies, lies_part, lies_drop}
use Rattle.read_rules.proofs.Splits.{box_of, Found, split-next}
use Rattle.read_rules.proofs.Changes.{Law, mark}
use Rattle.read_rules.proofs.Local.{Through, carry, Follows, Moves, Reads, refuses, chain}
use Rattle.read_rules.proofs.Readers.{stays, reader-reads}

then_then : (r : Result) (next : Jp2 → Result) → then_walk r (λ m. then_walk (next m) ended) ≡ then_walk (and_then r next) ended
then_then (accepted m) next = refl
then_then (refused number place) next = refl

-- the result of the walk through c: the answer, and whether an ihdr is lacking
abbrev told : ℕ → ℕ → Jp2 → List ℕ → Result × Bool
told n at k c = (read_all (split n at c) k, lacks_ihdr (split n at c))

told_same : (n at : ℕ) (c : List ℕ) (k m : Jp2) → Found c → (LBox c ≡ 0 → ⊥) → child (first_box at c) k ≡ accepted m → Follows (told (suc n) at k) (λ x. child (box_of at c x) k) (told n (at + box_length c) m) c
unfolding read_all lacks_ihdr
told_same n at c k m f z r e h p q =
    rw (split-next n at c e h f z, split-next n at c c (headed_self c) f z, p, r) (ap (λ (t : Result × Bool). (t.0, not (holds (kind_of (TBox c) is IHDR)) && t.1)) q)

-- jp2h's answer, from the result of the walk
abbrev finish : ℕ → Jp2 → Result × Bool → Result
finish place j t =
    table
    (file_type_bit j =? 0 ⇒ refused 9 place
    ∣ otherwise (and_then t.0 λ k. table (flag t.1 ⇒ refused 12 place ∣ otherwise (accepted (with_header_bit k)))))

jp2h-same : (place start : ℕ) (c e : List ℕ) (j : Jp2) → length e ≡ length c → told (length c) start (with_imgstate 0 j) e ≡ told (length c) start (with_imgstate 0 j) c → jp2h place start e j ≡ jp2h place start c j
unfolding jp2h
jp2h-same place start c e j l t = rw l (ap (finish place j) t)

module _ {f : List ℕ} {P : ℕ → Jp2 → Type 0} (law : Law f P) where
  children_step : (n at : ℕ) (c : List ℕ) (k : Jp2) → Lies f at c → ((m : Jp2) → box_length c ≤ length c → Reads P (told n (at + box_length c) m) (at + box_length c) (rest c c) m (then_walk (read_all (split n (at + box_length c) (rest c c)) m) ended)) → Reads P (told (suc n) at k) at c k (then_walk (read_all (split (suc n) at c) k) ended)
  unfolding split read_all
  children_step n at c k lies ih =
      each (λ bs. Reads P (told (suc n) at k) at c k (then_walk (read_all bs k) ended)) _ (
        (λ _. stays law _ at c k lies),
        λ some. (
          (λ _. refuses (omega arith) (omega arith) (omega arith)),
          λ header. (
            (λ _. refuses (omega arith) (omega arith) (omega arith)),
            λ low. (
              (λ _. refuses (omega arith) (omega arith) (omega arith)),
              λ z. (
                (λ _. refuses (omega arith) (omega arith) (omega arith)),
                λ least. (
                  (λ _. refuses (omega arith) (omega arith) (omega arith)),
                  λ within.
                      let w : Whole c = record { header = header; least = least; within = within } in
                      subst (Reads P (told (suc n) at k) at c k) (then_then (child (first_box at c) k) (read_all (split n (at + box_length c) (rest c c))))
                      (chain law (told (suc n) at k) (λ x. child (box_of at c x) k) (told n (at + box_length c)) at c w k (child (first_box at c) k) (λ m. then_walk (read_all (split n (at + box_length c) (rest c c)) m) ended)
                      (reader-reads law _ at (at + length_of_header c) (content c c) k (lies_part lies (length_of_header c) (box_length c) header) (omega (arith, header-least c)) (kind_of (TBox c)) (λ e _ q. q))
                      (λ m. ih m within)
                      (λ m r. told_same n at c k m (record { some = some; low = low; whole = w }) z r)),
                ),
              ),
            ),
          ),
        ),
      )

  children_reads : (n at : ℕ) (c : List ℕ) (k : Jp2) → Lies f at c → Reads P (told n at k) at c k (then_walk (read_all (split n at c) k) ended)
  unfolding split read_all
  children_reads zero at c k lies = stays law _ at c k lies
  children_reads (suc n) at c k lies = children_step n at c k lies (λ m l. children_reads n (at + box_length c) (rest c c) m (lies_drop lies (box_length c) l))

  module _ {X : Type 0} (R : List ℕ → X) (place start : ℕ) (c : List ℕ) (j : Jp2) (lies : Lies f start c) (first : place < start) where
    abbrev Answers : Result → Type 0
    Answers r = Reads P R start c j (then_walk r ended)

    -- the boxes are read from a record that differs in its image state
    abbrev inner : List ℕ → Result × Bool
    inner e = told (length c) start (with_imgstate 0 j) e

    -- then the header bit and the flag are set
    finished : (m : Jp2) → Through R inner c → Moves P inner start c (with_imgstate 0 j) m → Moves P R start c j (with_header_bit m)
    finished m through y = record { list = carry through y.list; keeps = λ p. mark law (start + length c) m _ lies.within (λ h. (omega arith, h.1)) (y.keeps (mark law start j _ (omega (arith, lies.within)) (λ h. h) p)) }

    finish-reads : Through R inner c → (r : Result) (b : Bool) → Reads P inner start c (with_imgstate 0 j) (then_walk r ended) → Answers (and_then r λ k. table (flag b ⇒ refused 12 place ∣ otherwise (accepted (with_header_bit k))))
    finish-reads through (refused number at) b y = y
    finish-reads through (accepted m) b y = each Answers _ ((λ _. refuses (omega arith) (omega arith) (omega arith)), λ _. finished m through y)

    jp2h-found : Through R inner c → Answers (jp2h place start c j)
    unfolding jp2h
    jp2h-found through = each Answers _ ((λ _. refuses (omega arith) (omega arith) (omega arith)), λ _. finish-reads through (read_all (boxes start c) (with_imgstate 0 j)) (lacks_ihdr (boxes start c)) (children_reads (length c) start c (with_imgstate 0 j) lies))

    pub jp2h-reads : Through R (λ e. jp2h place start e j) c → Answers (jp2h place start c j)
    jp2h-reads through = jp2h-found (λ e l t. through e l (jp2h-same place start c e j l t))
