-- The split into boxes by the answers of the header.
-- Assumes nothing.
use Prim.Native.Nat.{ℕ, zero, suc, ◌+◌, ◌≤◌, ◌<◌}
use mathlib.Core.Path.{◌≡◌, refl, sym, ap, ◌∙◌}
use mathlib.Core.List.{List}
use native.Mathlib.Omega.{arith}
use lib.ListN.{length, drop, length-drop}
use Rattle.std.specs.Prelude.{Ok, Err}
use Rattle.box_number.specs.Table.{◌=?◌, ◌<?◌}
use Rattle.box_number.proofs.Rows.{row, each}
use Rattle.box_number.proofs.Indices.{decide}
use Rattle.box_header.specs.Box.{LBox, length_of_header, box_length, header_of, header, child_header}
use Rattle.box_header.specs.declared.NoHeader.TheVariants.{NoBytes, Cut, HighWord, LengthZero}
use Rattle.box_header.proofs.Headers.{header_8, header-least, box-all}
use Rattle.read_record.specs.declared.Jp2.{Jp2}
use Rattle.read_record.specs.Answer.{and_then}
use Rattle.read_jp2h.specs.Split.{Boxes, no_bytes, ◌▸◌, first_box, split, boxes}
use Rattle.read_jp2h.specs.Child.{child}
use Rattle.read_jp2h.specs.Jp2h.{read_all}
use Rattle.read_jp2h.proofs.Faults.{split-none}
use Rattle.read_rules.specs.File.{Walked, ended, then_walk, outer, whole, run, walk}
use Rattle.read_rules.specs.BoxByBox.{children_from, box_from, boxes_from, BoxByBox}

-- the header's answers
module _ (c : List ℕ) where
  header-none : length c ≡ 0 → header c ≡ Err NoBytes
  unfolding header
  header-none h = sym (row 0 _ h refl)

  header-cut : (length c ≡ 0 → ⊥) → length c < length_of_header c → header c ≡ Err Cut
  unfolding header
  header-cut some h = sym (row 1 _ (some, h) refl)

  header-high : (length c ≡ 0 → ⊥) → length_of_header c ≤ length c → 4294967295 < box_length c → header c ≡ Err HighWord
  unfolding header
  header-high some h l = sym (row 2 _ (some, (h, l)) refl)

  header-there : (length c ≡ 0 → ⊥) → length_of_header c ≤ length c → box_length c ≤ 4294967295 → header c ≡ Ok (header_of c)
  unfolding header
  header-there some h l = sym (row 3 _ (some, (h, (l, tt))) refl)

  child-first : length c < 8 → child_header c ≡ header c
  unfolding child_header
  child-first h = sym (row 0 _ h refl)

  child_zero : 8 ≤ length c → LBox c ≡ 0 → child_header c ≡ Err LengthZero
  unfolding child_header
  child_zero h z = sym (row 1 _ (h, z) refl)

  child-plain : 8 ≤ length c → (LBox c ≡ 0 → ⊥) → child_header c ≡ header c
  unfolding child_header
  child-plain h z = sym (row 2 _ (h, (z, tt)) refl)

  child-none : length c ≡ 0 → child_header c ≡ Err NoBytes
  child-none z = child-first (omega arith) ∙ header-none z

  child-cut : (length c ≡ 0 → ⊥) → length c < length_of_header c → child_header c ≡ Err Cut
  child-cut some h =
      decide (length c <? 8)
      (λ l. child-first l ∙ header-cut some h)
      (λ l. child-plain l (λ z. let e : length_of_header c ≡ 8 = header_8 c (λ o. omega arith) in omega arith) ∙ header-cut some h)

  child-there : (length c ≡ 0 → ⊥) → length_of_header c ≤ length c → box_length c ≤ 4294967295 → (LBox c ≡ 0 → ⊥) → child_header c ≡ Ok (header_of c)
  child-there some h l z = child-plain (omega (arith, header-least c)) z ∙ header-there some h l

pub rest-less : (c : List ℕ) (n : ℕ) → length_of_header c ≤ box_length c → box_length c ≤ length c → length c ≤ suc n → length (drop (box_length c) c) ≤ n
rest-less c n least within h = rw length-drop (omega (arith, header-least c))

-- the split does not depend on the bound, where it is large enough
pub split-enough : (n m at : ℕ) (c : List ℕ) → length c ≤ n → length c ≤ m → split n at c ≡ split m at c
unfolding split
split-enough zero m at c h l = sym (split-none at c m (omega arith))
split-enough (suc n) zero at c h l = split-none at c (suc n) (omega arith)
split-enough (suc n) (suc m) at c h l =
    each (λ (bs : Boxes). bs ≡ split (suc m) at c) _ (
      (λ none. row 0 _ none refl),
      λ some. (
        (λ cut. row 1 _ (some, cut) refl),
        λ head. (
          (λ high. row 2 _ (some, (head, high)) refl),
          λ low. (
            (λ zero. row 3 _ (some, (head, (low, zero))) refl),
            λ named. (
              (λ short. row 4 _ (some, (head, (low, (named, short)))) refl),
              λ least. (
                (λ past. row 5 _ (some, (head, (low, (named, (least, past))))) refl),
                λ within.
                    row 6 _ (some, (head, (low, (named, (least, (within, tt))))))
                    (ap (λ (bs : Boxes). first_box at c ▸ bs) (split-enough n m (at + box_length c) (drop (box_length c) c) (rest-less c n least within h) (rest-less c m least within l))),
              ),
            ),
          ),
        ),
      ),
    )

module _ (at : ℕ) (c : List ℕ) (k : Jp2) where
  inside-by : (n : ℕ) → length c ≤ n → read_all (split n at c) k ≡ children_from at c k
  unfolding split read_all
  inside-by zero h = rw (child-none c (omega arith))
  inside-by (suc n) h =
      each (λ (bs : Boxes). read_all bs k ≡ children_from at c k) _ (
        (λ none. rw (child-none c none)),
        λ some. (
          (λ cut. rw (child-cut c some cut)),
          λ head. (
            (λ high. decide (LBox c =? 0) (λ z. rw (child_zero c (omega (arith, header-least c)) z)) (λ z. rw (child-plain c (omega (arith, header-least c)) z, header-high c some head high))),
            λ low. (
              (λ z. rw (child_zero c (omega (arith, header-least c)) z)),
              λ named. (
                (λ short. rw (child-there c some head low named) (row 0 _ (λ g. absurd (omega arith)) refl)),
                λ least. (
                  (λ past. rw (child-there c some head low named) (row 0 _ (λ g. past) refl)),
                  λ within.
                      rw (child-there c some head low named)
                      (row 1 _ ((least, within), tt)
                      (ap (λ (bs : Boxes). and_then (child (first_box at c) k) (λ m. read_all bs m)) (split-enough n (length (drop (box_length c) c)) (at + box_length c) (drop (box_length c) c) (rest-less c n least within h) (omega arith)))),
                ),
              ),
            ),
          ),
        ),
      )

  -- a box that lies in c, and the rest
  whole_by : (bs : Boxes) → (length c ≡ 0 → ⊥) → length_of_header c ≤ length c → box_length c ≤ 4294967295 → length_of_header c ≤ box_length c → box_length c ≤ length c → bs ≡ boxes (at + box_length c) (drop (box_length c) c) → whole (first_box at c) k (λ m. run bs m) ≡ boxes_from at c k
  whole_by bs some head low least within e =
      rw (header-there c some head low)
      (each (λ (w : Walked). w ≡ box_from at c k (header_of c)) _ (
        (λ s. row 0 _ s refl),
        λ s. row 3 _ (s, (least, (within, tt))) (ap (λ (b : Boxes). then_walk (outer (first_box at c) k) (λ m. run b m)) e),
      ))

  file-by : (n : ℕ) → length c ≤ n → run (split n at c) k ≡ boxes_from at c k
  unfolding split run
  file-by zero h = rw (header-none c (omega arith))
  file-by (suc n) h =
      each (λ (bs : Boxes). run bs k ≡ boxes_from at c k) _ (
        (λ none. rw (header-none c none)),
        λ some. (
          (λ cut. rw (header-cut c some cut)),
          λ head. (
            (λ high. rw (header-high c some head high)),
            λ low. (
              (λ z.
                  let e = box-all c z in
                  whole_by no_bytes some head low (omega arith) (omega arith) (sym (split-none (at + box_length c) (drop (box_length c) c) (length (drop (box_length c) c)) (rw length-drop (omega arith))))),
              λ named. (
                (λ short. rw (header-there c some head low) (each (λ (w : Walked). w ≡ box_from at c k (header_of c)) _ ((λ s. row 0 _ s refl), λ s. row 1 _ (s, short) refl))),
                λ least. (
                  (λ past. rw (header-there c some head low) (each (λ (w : Walked). w ≡ box_from at c k (header_of c)) _ ((λ s. row 0 _ s refl), λ s. row 2 _ (s, (least, past)) refl))),
                  λ within.
                      whole_by (split n (at + box_length c) (drop (box_length c) c)) some head low least within (split-enough n (length (drop (box_length c) c)) (at + box_length c) (drop (box_length c) c) (rest-less c n least within h) (omega arith)),
                ),
              ),
            ),
          ),
        ),
      )

start-by : (f : List ℕ) (j : Jp2) → length f ≤ 4294967295 → walk f j ≡ run (boxes 0 f) j
unfolding walk
start-by f j h = sym (row 1 _ (h, tt) refl)

pub box_by_box : BoxByBox
box_by_box = record { inside = λ at c k. inside-by at c k (length c) (omega arith); file = λ at c k. file-by at c k (length c) (omega arith); start = start-by }

-- how the boxes of c run, by its first header: there are no bytes, the header is missing, or it is there
module _ (at : ℕ) (c : List ℕ) (k : Jp2) where
  pub run_none : length c ≡ 0 → run (boxes at c) k ≡ ended k
  run_none z = box_by_box.file at c k ∙ rw (header-none c z)

  pub run-missing : (length c ≡ 0 → ⊥) → (length_of_header c ≤ length c → 4294967295 < box_length c) → run (boxes at c) k ≡ ended k
  run-missing some h =
      decide (length c <? length_of_header c)
      (λ l. box_by_box.file at c k ∙ rw (header-cut c some l))
      (λ l. box_by_box.file at c k ∙ rw (header-high c some l (h l)))

  pub run-there : (length c ≡ 0 → ⊥) → length_of_header c ≤ length c → box_length c ≤ 4294967295 → run (boxes at c) k ≡ box_from at c k (header_of c)
  run-there some h low = box_by_box.file at c k ∙ rw (header-there c some h low)
