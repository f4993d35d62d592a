-- A file that reaches its codestream, cut anywhere: R-1.
-- Assumes nothing.
use Prim.Native.Nat.{ℕ, zero, suc, ◌+◌, ◌≤◌, ◌<◌}
use mathlib.Core.Path.{◌≡◌, refl, sym, ap, subst, ◌∙◌}
use mathlib.Core.Bool.{true, false}
use mathlib.Core.List.{List, [], ◌∷◌, ◌++◌}
use native.Mathlib.Nat.{zero-add}
use native.Mathlib.Omega.{arith}
use lib.ListN.{length, drop, length-append, length-drop}
use lib.Seq.{take-append_seam}
use Rattle.box_number.specs.Table.{otherwise, ◌⇒◌∣◌, table}
use Rattle.box_number.proofs.Rows.{Says, row, each, not_both}
use Rattle.box_kind.specs.Kind.{is_image_header}
use Rattle.box_header.specs.Box.{largest, box_length}
use Rattle.box_header.proofs.Headers.{box-all}
use Rattle.read_record.specs.declared.Jp2.{Jp2}
use Rattle.read_record.specs.State.{with_unknown}
use Rattle.read_record.specs.Answer.{Result, accepted, refused}
use Rattle.read_jp2h.specs.Split.{Box, Boxes, no_bytes, cut, high_word, to_end, short, past, ◌▸◌, split, boxes}
use Rattle.read_rules.specs.File.{Walked, codestream, ended, file_refused, then_walk, is_stream, stream, other, is_read, past_end, outer, whole, run, walk}
use Rattle.read_rules.specs.Beginnings.{end_of, run_to}
use Rattle.read_rules.specs.CutTransfers.{before, first_cut, ButState, FieldByField, CutShort, as_whole, ended_with, four_at, NothingElse, CutTransfers, WhateverWasLost, FileRead, length_zero, NoLengthZeroBefore}
use Rattle.read_rules.proofs.Headers.{box_by_box}
use Rattle.read_rules.proofs.Beginnings.{content-long, beginnings}

-- answers that are not the codestream
no_end : {X : Type 0} {k m : Jp2} {offset : ℕ} → ended k ≡ codestream offset m → X
no_end e = let z : ◌≡◌ {A = ℕ} 0 1 = cc in absurd (omega arith)

no-refusal : {X : Type 0} {m : Jp2} {number place offset : ℕ} → file_refused number place ≡ codestream offset m → X
no-refusal e = let z : ◌≡◌ {A = ℕ} 0 1 = cc in absurd (omega arith)

not_accepted : {X : Type 0} {j : Jp2} {number place : ℕ} → refused number place ≡ accepted j → X
not_accepted e = let z : ◌≡◌ {A = ℕ} 0 1 = cc in absurd (omega arith)

then_reaches : {offset : ℕ} {m : Jp2} (r : Result) (next : Jp2 → Walked) → then_walk r next ≡ codestream offset m → (j : Jp2) × (r ≡ accepted j) × (next j ≡ codestream offset m)
then_reaches (accepted j) next e = (j, refl, e)
then_reaches (refused number place) next e = no-refusal e

-- a box, and what comes after it, reach the codestream
module _ (b : Box) (k : Jp2) where
  stream-reaches : {offset : ℕ} {m : Jp2} → stream b k ≡ codestream offset m → b.start ≡ offset
  stream-reaches {offset} {m} = each (λ (w : Walked). w ≡ codestream offset m → b.start ≡ offset) _ ((λ _ e. no-refusal e), λ _ e. cc)

  whole-reaches : {X : Type 0} {offset : ℕ} {m : Jp2} (next : Jp2 → Walked) → (Says true (is_stream b) → stream b k ≡ codestream offset m → X) → (Says false (is_stream b) → (j : Jp2) → outer b k ≡ accepted j → next j ≡ codestream offset m → X) → whole b k next ≡ codestream offset m → X
  whole-reaches {X} {offset} {m} next f g = each (λ (w : Walked). w ≡ codestream offset m → X) _ (f, λ s e. let (j, p, q) = then_reaches (outer b k) next e in g s j p q)

  past-reaches : {X : Type 0} {offset : ℕ} {m : Jp2} → past_end b k ≡ codestream offset m → X
  past-reaches {X} {offset} {m} = each (λ (w : Walked). w ≡ codestream offset m → X) _ ((λ _ e. no-refusal e), λ _ e. let (j, p, q) = then_reaches (other b k) ended e in no_end q)

  -- a last box that is not whole
  last-reaches : {offset : ℕ} {m : Jp2} (w : Walked) → (w ≡ codestream offset m → b.start ≡ offset) → table (is_stream b ⇒ stream b k ∣ otherwise w) ≡ codestream offset m → b.start ≡ offset
  last-reaches {offset} {m} w f = each (λ (v : Walked). v ≡ codestream offset m → b.start ≡ offset) _ ((λ _ e. stream-reaches e), λ _ e. f e)

-- boxes one behind the other, from a place on
abbrev Ordered : ℕ → Boxes → Type 0
Ordered at no_bytes = Unit
Ordered at (cut place) = Unit
Ordered at (high_word place) = Unit
Ordered at (to_end b) = at ≤ b.start
Ordered at (short b) = at ≤ b.start
Ordered at (past b) = at ≤ b.start
Ordered at (b ▸ bs) = (at ≤ b.start) × Ordered (end_of b) bs

ordered : (fuel at : ℕ) (c : List ℕ) → Ordered at (split fuel at c)
unfolding split
ordered zero at c = tt
ordered (suc fuel) at c =
    each (Ordered at) _ (
      (λ _. tt),
      λ _. (
        (λ _. tt),
        λ head. (
          (λ _. tt),
          λ _. (
            (λ _. omega arith),
            λ _. (
              (λ _. omega arith),
              λ least. (
                (λ _. omega arith),
                λ within.
                    (omega arith, subst (λ (x : ℕ). Ordered x (split fuel (at + box_length c) (drop (box_length c) c))) (omega (arith, content-long c least within)) (ordered fuel (at + box_length c) (drop (box_length c) c))),
              ),
            ),
          ),
        ),
      ),
    )

module _ (offset : ℕ) (m : Jp2) (n : ℕ) where
  abbrev Cut : Boxes → Jp2 → Walked → Type 0
  Cut bs k w = CutShort bs k offset m n w

  -- where no box lies wholly before the cut
  ended_here : (bs : Boxes) (k : Jp2) → run (before n bs) k ≡ ended k → n < offset → Cut bs k (ended k)
  ended_here bs k p l = ended_with l k k p (record { fields = refl; state = λ z. absurd (z refl) })

  as_whole_lem : (bs : Boxes) (k : Jp2) (w : Walked) → w ≡ codestream offset m → offset ≤ n → Cut bs k w
  as_whole_lem bs k w e l = subst (Cut bs k) (sym e) (as_whole l)

  none_before-last : (b : Box) (k : Jp2) → n < end_of b → run (before n (to_end b)) k ≡ ended k
  unfolding run before
  none_before-last b k l =
      let e : before n (to_end b) ≡ no_bytes = sym (row 0 _ l refl) in
      ap (λ (bs : Boxes). run bs k) e

  -- the codestream's own box
  cut-last : (b : Box) (k : Jp2) → whole b k ended ≡ codestream offset m → Cut (to_end b) k (run_to n (to_end b) k)
  unfolding run_to
  cut-last b k =
      whole-reaches b k ended
      (λ s e.
      let o = stream-reaches b k e in
      each (Cut (to_end b) k) _ (
        (λ l. ended_here (to_end b) k (none_before-last b k (omega arith)) (omega arith)),
        λ l. as_whole_lem (to_end b) k _ (sym (row 0 _ s refl) ∙ e) (omega arith),
      ))
      (λ s j p e. no_end e)

  module _ (b : Box) (bs : Boxes) (k : Jp2) where
    -- cut in this box or before it
    none_before : n < end_of b → run (before n (b ▸ bs)) k ≡ ended k
    unfolding run before
    none_before l =
        let e : before n (b ▸ bs) ≡ no_bytes = sym (row 0 _ l refl) in
        ap (λ (x : Boxes). run x k) e

    first-here : n < end_of b → first_cut n (b ▸ bs) ≡ b ∷ []
    unfolding first_cut
    first-here l = sym (row 0 _ l refl)

    cut-stream : Says true (is_stream b) → stream b k ≡ codestream offset m → Cut (b ▸ bs) k (run_to n (b ▸ bs) k)
    unfolding run_to
    cut-stream s e =
        let o = stream-reaches b k e in
        each (Cut (b ▸ bs) k) _ (
          (λ l. ended_here (b ▸ bs) k (none_before (omega arith)) (omega arith)),
          λ l. ((λ _. as_whole_lem (b ▸ bs) k _ e (omega arith)), λ t. absurd (t s)),
        )

    -- a box that is read or skipped
    module _ (s : Says false (is_stream b)) (j : Jp2) (r : outer b k ≡ accepted j) where
      -- a kind that is not read is skipped, for the whole file has signature and file type before it
      is-other : Says false (is_read b.kind) → other b k ≡ accepted j
      unfolding outer
      is-other f = row 5 _ (f.0.0, (f.0.1.0, (f.0.1.1, ((λ i. absurd (not_both (is_image_header b.kind) i f.1)), (f.1, tt))))) refl ∙ r

      skips : other b k ≡ accepted j → then_walk (other b k) ended ≡ ended (with_unknown k)
      skips = each (λ (x : Result). x ≡ accepted j → then_walk x ended ≡ ended (with_unknown k)) _ ((λ _ e. not_accepted e), λ _. ((λ _ e. not_accepted e), λ _ e. refl))

      cut_inside : n < offset → b.start ≤ n → n < end_of b → Cut (b ▸ bs) k (past_end b k)
      cut_inside o h l =
          each (Cut (b ▸ bs) k) _
          ((λ f. four_at o b (first-here l) h f), λ f. subst (Cut (b ▸ bs) k) (sym (skips (is-other f))) (ended_with o k (with_unknown k) (none_before l) (record { fields = refl; state = λ _. refl })))

      -- cut behind it
      module _ (l : end_of b ≤ n) where
        run-before : run (before n (b ▸ bs)) k ≡ run (before n bs) j
        unfolding run before
        run-before =
            let e : before n (b ▸ bs) ≡ b ▸ before n bs = sym (row 1 _ (l, tt) refl) in
            let f : whole b k (λ q. run (before n bs) q) ≡ then_walk (outer b k) (λ q. run (before n bs) q) = sym (row 1 _ (s, tt) refl) in
            ap (λ (x : Boxes). run x k) e
            ∙ f
            ∙ ap (λ (x : Result). then_walk x (λ q. run (before n bs) q)) r

        first-cut : first_cut n (b ▸ bs) ≡ first_cut n bs
        unfolding first_cut
        first-cut = sym (row 1 _ (l, tt) refl)

        cut-behind : {w : Walked} → Cut bs j w → Cut (b ▸ bs) k w
        cut-behind (as_whole o) = as_whole o
        cut-behind (ended_with o x y p q) = ended_with o x y (run-before ∙ p) q
        cut-behind (four_at o d p h q) = four_at o d (first-cut ∙ p) h q

      cut-box : end_of b ≤ offset → Cut bs j (run_to n bs j) → Cut (b ▸ bs) k (run_to n (b ▸ bs) k)
      unfolding run_to
      cut-box o c =
          each (Cut (b ▸ bs) k) _ (
            (λ l. ended_here (b ▸ bs) k (none_before (omega arith)) (omega arith)),
            λ h. (
              (λ t. absurd (s t)),
              λ _.
                  ((λ l. cut_inside (omega arith) h l), λ l. subst (Cut (b ▸ bs) k) (sym (ap (λ (x : Result). then_walk x (λ q. run_to n bs q)) r)) (cut-behind l c)),
            ),
          )

  -- boxes that reach the codestream, cut after n bytes of the file
  cuts : (bs : Boxes) (at : ℕ) (k : Jp2) → Ordered at bs → run bs k ≡ codestream offset m → (at ≤ offset) × Cut bs k (run_to n bs k)
  unfolding run run_to before
  cuts no_bytes at k o e = no_end e
  cuts (cut place) at k o e = no_end e
  cuts (high_word place) at k o e = no_end e
  cuts (to_end b) at k o e = (whole-reaches b k ended (λ s q. let p = stream-reaches b k q in omega arith) (λ s j p q. no_end q) e, cut-last b k e)
  cuts (short b) at k o e =
      let p = last-reaches b k _ (λ q. no-refusal q) e in
      (omega arith, each (Cut (short b) k) _ ((λ l. ended_here (short b) k refl (omega arith)), λ l. as_whole_lem (short b) k _ e (omega arith)))
  cuts (past b) at k o e =
      let p = last-reaches b k _ (λ q. past-reaches b k q) e in
      (omega arith, each (Cut (past b) k) _ ((λ l. ended_here (past b) k refl (omega arith)), λ l. as_whole_lem (past b) k _ e (omega arith)))
  cuts (b ▸ bs) at k (o, rest) e =
      whole-reaches b k (λ q. run bs q)
      (λ s q. let p = stream-reaches b k q in (omega arith, cut-stream b bs k s q))
      (λ s j r q. let (l, c) = cuts bs (end_of b) j rest q in (omega arith, cut-box b bs k s j r l c))
      e

-- a file that reaches its codestream is not too long, and its boxes run to it
not_long : (f : List ℕ) (j : Jp2) {offset : ℕ} {m : Jp2} → walk f j ≡ codestream offset m → length f ≤ largest
unfolding walk
not_long f j {offset} {m} = each (λ (w : Walked). w ≡ codestream offset m → length f ≤ largest) _ ((λ _ e. no-refusal e), λ h e. h)

boxes_reach : (f : List ℕ) (j : Jp2) {offset : ℕ} {m : Jp2} → walk f j ≡ codestream offset m → run (boxes 0 f) j ≡ codestream offset m
boxes_reach f j e = sym (box_by_box.start f j (not_long f j e)) ∙ e

field_by_field : (k l : Jp2) → ButState k l → FieldByField k l
field_by_field k l b =
    let e = b.fields in
    record {
      image = ap (λ (x : Jp2). x.image) e;
      colour = ap (λ (x : Jp2). x.colour) e;
      filetype = ap (λ (x : Jp2). x.filetype) e;
      lists = ap (λ (x : Jp2). x.lists) e;
      imgstate = ap (λ (x : Jp2). x.status.imgstate) e;
      hasjp2h = ap (λ (x : Jp2). x.status.hasjp2h) e;
      hasihdr = ap (λ (x : Jp2). x.status.hasihdr) e;
      state = b.state;
    }

pub nothing_else : NothingElse
nothing_else bs j offset m n w (as_whole l) = (l, refl, refl)
nothing_else bs j offset m n w (ended_with l k x p q) = (l, (k, p, field_by_field k x q))
nothing_else bs j offset m n w (four_at l b p h q) = (l, refl, (b, p, refl, h, q))

pub cut_transfers : CutTransfers
cut_transfers f j offset m e n few = subst (CutShort (boxes 0 f) j offset m n) (sym (beginnings f j n (not_long f j e) few)) (cuts offset m n (boxes 0 f) 0 j (ordered (length f) 0 f) (boxes_reach f j e)).1

pub whatever_was_lost : (s : List ℕ) (j : Jp2) (w : Walked) → w ≡ walk s j → WhateverWasLost s j w
whatever_was_lost s j w e rest offset m reaches =
    rw e (subst (λ (x : List ℕ). CutShort (boxes 0 (s ++ rest)) j offset m (length s) (walk x j)) (take-append_seam s rest) (cut_transfers (s ++ rest) j offset m reaches (length s) (rw length-append (omega arith))))

pub file-read : (s : List ℕ) (j : Jp2) (w : Walked) → w ≡ walk s j → FileRead s j w
file-read s j w e = record { exact = e; cut = whatever_was_lost s j w e }

no-box : {X : Type 0} {b : Box} → ◌≡◌ {A = List Box} [] (b ∷ []) → X
no-box e = let z : ◌≡◌ {A = ℕ} 0 1 = cc in absurd (omega arith)

one-box : {b d : Box} → ◌≡◌ {A = List Box} (b ∷ []) (d ∷ []) → b ≡ d
one-box e = cc

-- the box of length 0 of ordered boxes lies behind the place that they begin at
zero_behind : (bs : Boxes) (at : ℕ) (b : Box) → Ordered at bs → length_zero bs ≡ b ∷ [] → at ≤ b.start
zero_behind no_bytes at b o e = no-box e
zero_behind (cut place) at b o e = no-box e
zero_behind (high_word place) at b o e = no-box e
zero_behind (to_end d) at b o e = subst (λ (x : Box). at ≤ x.start) (one-box e) o
zero_behind (short d) at b o e = no-box e
zero_behind (past d) at b o e = no-box e
zero_behind (d ▸ bs) at b (o, rest) e = let l = zero_behind bs (end_of d) b rest e in omega arith

-- and not before the codestream that they reach
zero_after : (bs : Boxes) (at : ℕ) (k : Jp2) (offset : ℕ) (m : Jp2) (b : Box) → Ordered at bs → run bs k ≡ codestream offset m → length_zero bs ≡ b ∷ [] → offset ≤ b.start
unfolding run
zero_after no_bytes at k offset m b o e z = no-box z
zero_after (cut place) at k offset m b o e z = no-box z
zero_after (high_word place) at k offset m b o e z = no-box z
zero_after (to_end d) at k offset m b o e z = whole-reaches d k ended (λ s q. let p = stream-reaches d k q in subst (λ (x : Box). offset ≤ x.start) (one-box z) (omega arith)) (λ s j p q. no_end q) e
zero_after (short d) at k offset m b o e z = no-box z
zero_after (past d) at k offset m b o e z = no-box z
zero_after (d ▸ bs) at k offset m b (o, rest) e z =
    whole-reaches d k (λ q. run bs q)
    (λ s q. let p = stream-reaches d k q in let l = zero_behind bs (end_of d) b rest z in omega arith)
    (λ s j r q. zero_after bs (end_of d) j offset m b rest q z)
    e

-- it takes all bytes
zero_ends : (fuel at : ℕ) (c : List ℕ) (b : Box) → length_zero (split fuel at c) ≡ b ∷ [] → end_of b ≡ at + length c
unfolding split
zero_ends zero at c b = λ e. no-box e
zero_ends (suc fuel) at c b =
    each (λ (bs : Boxes). length_zero bs ≡ b ∷ [] → end_of b ≡ at + length c) _ (
      (λ _ e. no-box e),
      λ _. (
        (λ _ e. no-box e),
        λ head. (
          (λ _ e. no-box e),
          λ _. (
            (λ z e. let a = box-all c z in let l = content-long c (omega arith) (omega arith) in subst (λ (x : Box). end_of x ≡ at + length c) (one-box e) (omega arith)),
            λ _. (
              (λ _ e. no-box e),
              λ least. (
                (λ _ e. no-box e),
                λ within e. let q = zero_ends fuel (at + box_length c) (drop (box_length c) c) b e in omega (arith, length-drop (box_length c) c),
              ),
            ),
          ),
        ),
      ),
    )

pub no_length_zero_before : NoLengthZeroBefore
no_length_zero_before f j offset m e b z = (zero_ends (length f) 0 f b z ∙ zero-add (length f), zero_after (boxes 0 f) 0 j offset m b (ordered (length f) 0 f) (boxes_reach f j e) z)
