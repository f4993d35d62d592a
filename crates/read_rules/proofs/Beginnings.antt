-- What every beginning of a file answers.
-- Assumes nothing.
use Prim.Native.Nat.{ℕ, zero, suc, ◌+◌, ◌-◌, ◌≤◌, ◌<◌}
use mathlib.Core.Path.{◌≡◌, refl, sym, ap, subst, ◌∙◌}
use mathlib.Core.Bool.{true, false}
use mathlib.Core.List.{List}
use native.Mathlib.Nat.{zero-add}
use native.Mathlib.Omega.{arith}
use lib.ListN.{length, take, drop, length-take, length-drop}
use lib.Seq.{get_or-take, get_or-drop, ext_get_or, length-take-le, take_all}
use Rattle.box_number.specs.Number.{part}
use Rattle.box_number.specs.Table.{◌=?◌, ◌<?◌}
use Rattle.box_number.proofs.Rows.{Says, row, each}
use Rattle.box_number.proofs.Indices.{decide}
use Rattle.box_kind.specs.Kind.{kind_of, tag}
use Rattle.box_header.specs.Box.{largest, LBox, TBox, length_of_header, box_length, header_of}
use Rattle.box_header.proofs.Headers.{header-least, header_16, box-all}
use Rattle.read_record.specs.declared.Jp2.{Jp2}
use Rattle.read_record.specs.Answer.{Result, accepted, refused}
use Rattle.read_jp2h.specs.Split.{Box, Boxes, to_end, first_box, split, boxes}
use Rattle.read_rules.specs.File.{Walked, ended, file_refused, then_walk, is_stream, stream, past_end, outer, whole, run}
use Rattle.read_rules.specs.BoxByBox.{box_from}
use Rattle.read_rules.specs.Beginnings.{shortened, run_to, Beginnings}
use Rattle.read_rules.proofs.Sames.{Same, within, number_same}
use Rattle.read_rules.proofs.Headers.{split-enough, rest-less, box_by_box, run_none, run-missing, run-there}

-- the first n bytes of c, which has so many
module _ (c : List ℕ) (n : ℕ) (few : n ≤ length c) where
  long : length (take n c) ≡ n
  long = length-take-le n c few

  same : (k : ℕ) → k ≤ n → Same c 0 (take n c) 0 k
  same k h = record { byte = λ i b. get_or-take n c (0 + i) 0 (omega arith) }

  first-same : 4 ≤ n → LBox (take n c) ≡ LBox c
  first-same h = number_same 4 (same 4 h)

  type-same : 8 ≤ n → TBox (take n c) ≡ TBox c
  type-same h = number_same 4 (within (same 8 h) 4 4 (omega arith))

  header-same : 8 ≤ n → length_of_header (take n c) ≡ length_of_header c
  unfolding length_of_header
  header-same h = rw (first-same (omega arith))

  box-same : length_of_header c ≤ n → (LBox c ≡ 0 → ⊥) → box_length (take n c) ≡ box_length c
  unfolding box_length
  box-same h z =
      let l = header-least c in
      let first = first-same (omega arith) in
      sym (each (λ m. m ≡ box_length (take n c)) _ (
        (λ y. absurd (z y)),
        λ y. (
          (λ o. let k = header_16 c o in row 1 _ (omega arith) (sym (number_same 8 (within (same 16 (omega arith)) 8 8 (omega arith))))),
          λ o. row 2 _ (omega arith) (sym first),
        ),
      ))

  part-is : (s t : ℕ) → t ≤ n → part (take n c) s t ≡ part c s t
  unfolding part
  part-is s t h =
      ext_get_or 0 _ _ (simp (length-take, length-drop) (omega arith))
      λ i l. let b : i < t - s = omega (arith, length-take (t - s) (drop s (take n c))) in rw (get_or-take (t - s) (drop s (take n c)) i 0 b, get_or-take (t - s) (drop s c) i 0 b, get_or-drop s (take n c) i 0, get_or-drop s c i 0) (get_or-take n c (s + i) 0 (omega arith))

  drop-is : (s : ℕ) → drop s (take n c) ≡ take (n - s) (drop s c)
  drop-is s =
      ext_get_or 0 _ _ (simp (length-drop, length-take) (omega arith))
      λ i l. let b : i < n - s = omega (arith, length-drop s (take n c), long) in rw (get_or-take (n - s) (drop s c) i 0 b, get_or-drop s (take n c) i 0, get_or-drop s c i 0) (get_or-take n c (s + i) 0 (omega arith))

  -- the content of a box that takes them all
  last-is : (at s : ℕ) → part (take n c) s n ≡ take (at + n - (at + s)) (part c s (length c))
  unfolding part
  last-is at s =
      let e : at + n - (at + s) ≡ n - s = omega arith in
      let d = length-drop s c in
      let all : take (length c - s) (drop s c) ≡ drop s c = take_all (length c - s) (drop s c) (omega arith) in
      let less : take (n - s) (take (n - s) (drop s c)) ≡ take (n - s) (drop s c) = take_all (n - s) (take (n - s) (drop s c)) (omega (arith, length-take (n - s) (drop s c))) in
      rw (e, all, drop-is s) less

-- where the boxes of c begin and end
pub content-long : (c : List ℕ) → length_of_header c ≤ box_length c → box_length c ≤ length c → length_of_header c + length (part c (length_of_header c) (box_length c)) ≡ box_length c
unfolding part
content-long c least within = simp (length-take, length-drop) (omega arith)

-- what comes after a box may be said in other words
then_same : (r : Result) (f g : Jp2 → Walked) → ((m : Jp2) → f m ≡ g m) → then_walk r f ≡ then_walk r g
then_same (accepted m) f g h = h m
then_same (refused number place) f g h = refl

-- what the first n bytes of c run to
module _ (at : ℕ) (c : List ℕ) (k : Jp2) (n : ℕ) (few : n ≤ length c) where
  abbrev Runs : Walked → Type 0
  Runs w = run (boxes at (take n c)) k ≡ w

  -- no whole header
  cut-there : n < length_of_header c → length (take n c) < length_of_header (take n c)
  cut-there h =
      decide (n <? 8)
      (λ l. omega (arith, long c n few, header-least (take n c)))
      (λ l. omega (arith, long c n few, header-same c n few l))

  runs_none : n < length_of_header c → Runs (ended k)
  runs_none h =
      decide (n =? 0)
      (λ z. run_none at (take n c) k (long c n few ∙ z))
      (λ z. run-missing at (take n c) k (λ e. z (sym (long c n few) ∙ e)) (λ l. absurd (omega (arith, cut-there h))))

  module _ (h : length_of_header c ≤ n) where
    eight : 8 ≤ n
    eight = omega (arith, header-least c)

    some : length (take n c) ≡ 0 → ⊥
    some z = omega (arith, long c n few, header-least c)

    there : length_of_header (take n c) ≤ length (take n c)
    there = omega (arith, long c n few, header-same c n few eight)

    runs-high : largest < box_length (take n c) → Runs (ended k)
    runs-high l = run-missing at (take n c) k some (λ _. l)

    module _ (low : box_length (take n c) ≤ largest) where
      runs-there : Runs (box_from at (take n c) k (header_of (take n c)))
      runs-there = run-there at (take n c) k some there low

      runs-stream : Says true (is_stream (first_box at c)) → Runs (stream (first_box at c) k)
      runs-stream s = runs-there ∙ sym (row 0 _ (ap (λ (t : ℕ). tag (kind_of t)) (type-same c n few eight) ∙ s) (rw (header-same c n few eight)))

      module _ (t : Says false (is_stream (first_box at c))) (z : LBox c ≡ 0 → ⊥) where
        other-type : Says false (is_stream (first_box at (take n c)))
        other-type e = t (sym (ap (λ (t : ℕ). tag (kind_of t)) (type-same c n few eight)) ∙ e)

        runs-short : box_length c < length_of_header c → Runs (file_refused 3 at)
        runs-short l = runs-there ∙ sym (row 1 _ (other-type, omega (arith, header-same c n few eight, box-same c n few h z)) refl)

        module _ (least : length_of_header c ≤ box_length c) where
          no_shorter : length_of_header (take n c) ≤ box_length (take n c)
          no_shorter = omega (arith, header-same c n few eight, box-same c n few h z)

          runs_past : n < box_length c → Runs (past_end (first_box at c) k)
          runs_past l = runs-there ∙ sym (row 2 _ (other-type, (no_shorter, omega (arith, long c n few, box-same c n few h z))) (rw (type-same c n few eight)))

          runs-whole : box_length c ≤ n → Runs (then_walk (outer (first_box at c) k) λ m. run (boxes (at + box_length c) (take (n - box_length c) (drop (box_length c) c))) m)
          runs-whole l =
              runs-there
              ∙ sym (row 3 _ (other-type, (no_shorter, (omega (arith, long c n few, box-same c n few h z), tt)))
              (rw (type-same c n few eight, header-same c n few eight, box-same c n few h z, part-is c n few (length_of_header c) (box_length c) l, drop-is c n few (box_length c))))

    -- a box of length 0 takes what there is
    module _ (z : LBox c ≡ 0) (low : n ≤ largest) where
      zero_there : LBox (take n c) ≡ 0
      zero_there = first-same c n few (omega (arith, eight)) ∙ z

      all_there : box_length (take n c) ≡ n
      all_there = box-all (take n c) zero_there ∙ long c n few

      box-last : first_box at (take n c) ≡ shortened (at + n) (first_box at c)
      box-last = rw (all_there, box-all c z, type-same c n few eight, header-same c n few eight, last-is c n few at (length_of_header c))

      split-last : split (suc n) at (take n c) ≡ to_end (first_box at (take n c))
      unfolding split
      split-last = sym (row 3 _ (some, (there, (omega (arith, all_there), zero_there))) refl)

      runs_last : Runs (whole (shortened (at + n) (first_box at c)) k ended)
      unfolding run
      runs_last =
          ap (λ (bs : Boxes). run bs k) (split-enough (length (take n c)) (suc n) at (take n c) (omega arith) (omega (arith, long c n few)) ∙ split-last)
          ∙ ap (λ (b : Box). whole b k ended) box-last

-- a box's length fits in 32 bits in the beginning too
low-take : (c : List ℕ) (n : ℕ) → n ≤ length c → length_of_header c ≤ n → box_length c ≤ largest → box_length (take n c) ≤ largest
low-take c n few h low =
    decide (LBox c =? 0)
    (λ z. let a = box-all c z in let b = box-all (take n c) (first-same c n few (omega (arith, header-least c)) ∙ z) in omega (arith, long c n few))
    (λ z. omega (arith, box-same c n few h z))

-- what comes behind the first box
behind : (fuel at : ℕ) (c : List ℕ) (n : ℕ) → box_length c ≤ n →
    ((m : Jp2) → run (boxes (at + box_length c) (take (n - box_length c) (drop (box_length c) c))) m ≡ run_to (at + box_length c + (n - box_length c)) (split fuel (at + box_length c) (drop (box_length c) c)) m) →
    (m : Jp2) → run (boxes (at + box_length c) (take (n - box_length c) (drop (box_length c) c))) m ≡ run_to (at + n) (split fuel (at + box_length c) (drop (box_length c) c)) m
behind fuel at c n l next m =
    let e : at + box_length c + (n - box_length c) ≡ at + n = omega arith in
    subst (λ (x : ℕ). run (boxes (at + box_length c) (take (n - box_length c) (drop (box_length c) c))) m ≡ run_to x (split fuel (at + box_length c) (drop (box_length c) c)) m) e (next m)

-- by what stands at the front of c
answers : (fuel at : ℕ) (c : List ℕ) (k : Jp2) (n : ℕ) → length c ≤ fuel → length c ≤ largest → n ≤ length c → run (boxes at (take n c)) k ≡ run_to (at + n) (split fuel at c) k
unfolding split run run_to
answers zero at c k n enough short few = runs_none at c k n few (omega (arith, header-least c))
answers (suc fuel) at c k n enough fits few =
    each (λ (bs : Boxes). run (boxes at (take n c)) k ≡ run_to (at + n) bs k) _ (
      (λ none. runs_none at c k n few (omega (arith, header-least c))),
      λ some. (
        (λ cut. runs_none at c k n few (omega arith)),
        λ head. (
          (λ high.
              let named : LBox c ≡ 0 → ⊥ = λ z. omega (arith, box-all c z) in
              decide (n <? length_of_header c) (runs_none at c k n few) (λ h. runs-high at c k n few h (omega (arith, box-same c n few h named)))),
          λ low. (
            (λ z.
                decide (n <? length_of_header c)
                (λ l. row 0 _ (omega arith) (runs_none at c k n few l))
                (λ h. row 1 _ (omega arith, tt) (runs_last at c k n few h z (omega arith)))),
            λ named. (
              (λ short.
                  decide (n <? length_of_header c)
                  (λ l. row 0 _ (omega arith) (runs_none at c k n few l))
                  (λ h.
                  let w = low-take c n few h low in
                  row 1 _ (omega arith, tt)
                  (decide (is_stream (first_box at c))
                  (λ s. row 0 _ s (runs-stream at c k n few h w s))
                  (λ s. row 1 _ (s, tt) (runs-short at c k n few h w s named short))))),
              λ least. (
                (λ past.
                    decide (n <? length_of_header c)
                    (λ l. row 0 _ (omega arith) (runs_none at c k n few l))
                    (λ h.
                    let w = low-take c n few h low in
                    row 1 _ (omega arith, tt)
                    (decide (is_stream (first_box at c))
                    (λ s. row 0 _ s (runs-stream at c k n few h w s))
                    (λ s. row 1 _ (s, tt) (runs_past at c k n few h w s named least (omega arith)))))),
                λ within.
                    let e = content-long c least within in
                    decide (n <? length_of_header c)
                    (λ l. row 0 _ (omega arith) (runs_none at c k n few l))
                    (λ h.
                    let w = low-take c n few h low in
                    decide (is_stream (first_box at c))
                    (λ s. row 1 _ (omega arith, s) (runs-stream at c k n few h w s))
                    (λ s.
                    decide (n <? box_length c)
                    (λ l. row 2 _ (omega arith, (s, omega arith)) (runs_past at c k n few h w s named least l))
                    (λ l. row 3 _ (omega arith, (s, (omega arith, tt))) (runs-whole at c k n few h w s named least l ∙ then_same (outer (first_box at c) k) _ _ (behind fuel at c n l λ m. answers fuel (at + box_length c) (drop (box_length c) c) m (n - box_length c) (rest-less c fuel least within enough) (omega (arith, length-drop (box_length c) c)) (omega (arith, length-drop (box_length c) c))))))),
              ),
            ),
          ),
        ),
      ),
    )

pub beginnings : Beginnings
beginnings f j n low few =
    let l = long f n few in
    box_by_box.start (take n f) j (omega arith)
    ∙ subst (λ (x : ℕ). run (boxes 0 (take n f)) j ≡ run_to x (boxes 0 f) j) (zero-add n) (answers (length f) 0 f j n (omega arith) low few)
