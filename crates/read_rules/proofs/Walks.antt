-- The walk through a file, and what it does to the record.
-- Assumes nothing.
use Prim.Native.Nat.{ℕ, zero, suc, ◌+◌, ◌≤◌, ◌<◌}
use mathlib.Core.Path.{◌≡◌, refl, sym, ap, ◌∙◌}
use mathlib.Core.Bool.{false}
use mathlib.Core.List.{List}
use native.Mathlib.Omega.{arith}
use lib.ListN.{length}
use Rattle.box_number.proofs.Rows.{Says, row, each}
use Rattle.box_kind.specs.Kind.{kind_of, tag}
use Rattle.box_header.specs.Box.{LBox, TBox, length_of_header, box_length}
use Rattle.box_header.proofs.Headers.{header-least, box-all}
use Rattle.read_record.specs.declared.Jp2.{Jp2}
use Rattle.read_record.specs.State.{with_unknown}
use Rattle.read_record.specs.Answer.{Result, accepted}
use Rattle.read_jp2h.specs.Split.{Box, first_box, split}
use Rattle.read_rules.specs.File.{Walked, ended, then_walk, is_stream, stream, outer, past_end, whole, run}
use Rattle.read_rules.proofs.Sames.{headed_self}
use Rattle.read_rules.proofs.Parts.{Whole, content, rest, Lies, lies_part, lies_drop}
use Rattle.read_rules.proofs.Splits.{box_of, Found, split-next, split-last}
use Rattle.read_rules.proofs.Changes.{marked, Law}
use Rattle.read_rules.proofs.Local.{Through, Follows, Moves, Reads, refuses, chain}
use Rattle.read_rules.proofs.Readers.{moves, stays, signature-reads, type_reads, reader-reads}
use Rattle.read_rules.proofs.Superbox.{jp2h-reads}

abbrev pub heard : ℕ → ℕ → Jp2 → List ℕ → Walked
heard n at k c = run (split n at c) k

-- two boxes of one kind that are read the same, and the same after them
whole_same : (b d : Box) (k m : Jp2) (next then : Jp2 → Walked) → Says false (is_stream b) → d.kind ≡ b.kind → outer b k ≡ accepted m → outer d k ≡ outer b k → then m ≡ next m → whole d k then ≡ whole b k next
whole_same b d k m next then n t r p q =
    let same : then_walk (outer d k) then ≡ then_walk (outer b k) next = rw (p, r) q in
    sym (row 1 _ ((λ y. n (ap tag (sym t) ∙ y)), tt) refl) ∙ same ∙ row 1 _ (n, tt) refl

-- a file whose first box is read follows from that box and the rest
module _ (n at : ℕ) (c : List ℕ) (k m : Jp2) (found : Found c) (other : Says false (is_stream (first_box at c))) (r : outer (first_box at c) k ≡ accepted m) where
  heard-next : (LBox c ≡ 0 → ⊥) → Follows (heard (suc n) at k) (λ x. outer (box_of at c x) k) (heard n (at + box_length c) m) c
  unfolding run
  heard-next z e h p q = rw (split-next n at c e h found z, split-next n at c c (headed_self c) found z) (whole_same (first_box at c) (box_of at c (content c e)) k m _ _ other refl r p q)

  heard-last : LBox c ≡ 0 → Follows (heard (suc n) at k) (λ x. outer (box_of at c x) k) (λ _. ended m) c
  unfolding run
  heard-last z e h p q = rw (split-last n at c e h found z, split-last n at c c (headed_self c) found z) (whole_same (first_box at c) (box_of at c (content c e)) k m ended ended other refl r p q)

module _ {f : List ℕ} {P : ℕ → Jp2 → Type 0} (law : Law f P) where
  -- a box of the file
  module _ {X : Type 0} (R : List ℕ → X) (at : ℕ) (c x : List ℕ) (k : Jp2) (lies : Lies f (at + length_of_header c) x) where
    abbrev Answers : Result → Type 0
    Answers r = Reads P R (at + length_of_header c) x k (then_walk r ended)

    first : at < at + length_of_header c
    first = omega (arith, header-least c)

    before : at < at + length_of_header c + length x
    before = omega (arith, first)

    unknown : Answers (accepted (with_unknown k))
    unknown = moves law R (at + length_of_header c) x k lies (marked _ (λ h. h)) refl

    outer-reads : Through R (λ e. outer (box_of at c e) k) x → Answers (outer (box_of at c x) k)
    unfolding outer
    outer-reads through =
        each Answers _ (
          (λ _. signature-reads law R at (at + length_of_header c) x k lies first),
          λ n₀. (
            (λ _. type_reads law R at (at + length_of_header c) x k lies first),
            λ n₁. (
              (λ h. jp2h-reads law R at (at + length_of_header c) x k lies first (λ e l q. through e l (sym (row 2 _ (n₀, (n₁, h)) refl) ∙ q ∙ row 2 _ (n₀, (n₁, h)) refl))),
              λ n₂. (
                (λ _. unknown),
                λ n₃. (
                  (λ h. reader-reads law R at (at + length_of_header c) x k lies first (kind_of (TBox c)) (λ e l q. through e l (sym (row 4 _ (n₀, (n₁, (n₂, (n₃, h)))) refl) ∙ q ∙ row 4 _ (n₀, (n₁, (n₂, (n₃, h)))) refl))),
                  λ _.
                      each Answers _ ((λ _. refuses (omega arith) (omega arith) before), λ _. ((λ _. refuses (omega arith) (omega arith) before), λ _. unknown)),
                ),
              ),
            ),
          ),
        )

  -- the first box of c: whole, and then the rest; or the codestream
  module _ (at : ℕ) (c : List ℕ) (k : Jp2) (lies : Lies f at c) (header : length_of_header c ≤ length c) where
    here : at < at + length c
    here = omega (arith, header-least c)

    stream-reads : {X : Type 0} (R : List ℕ → X) → Reads P R at c k (stream (first_box at c) k)
    stream-reads R = each (Reads P R at c k) _ ((λ _. refuses (omega arith) (omega arith) here), λ _. (omega arith, moves law R at c k lies (marked _ (λ x. x)) refl))

    whole-reads : {X Z : Type 0} (R : List ℕ → X) (G : Jp2 → List ℕ → Z) (next : Jp2 → Walked) → Whole c → ((m : Jp2) → Reads P (G m) (at + box_length c) (rest c c) m (next m)) → (Says false (is_stream (first_box at c)) → (m : Jp2) → outer (first_box at c) k ≡ accepted m → Follows R (λ x. outer (box_of at c x) k) (G m) c) → Reads P R at c k (whole (first_box at c) k next)
    whole-reads R G next w rest through =
        each (Reads P R at c k) _ (
          (λ _. stream-reads R),
          λ n.
              chain law R (λ x. outer (box_of at c x) k) G at c w k (outer (first_box at c) k) next
              (outer-reads _ at c (content c c) k (lies_part lies (length_of_header c) (box_length c) w.header) (λ e _ q. q))
              rest
              (through n),
        )

    past-reads : {X : Type 0} (R : List ℕ → X) → Reads P R at c k (past_end (first_box at c) k)
    past-reads R =
        each (Reads P R at c k) _
        ((λ _. refuses (omega arith) (omega arith) here), λ _. each (λ r. Reads P R at c k (then_walk r ended)) _ ((λ _. refuses (omega arith) (omega arith) here), λ _. ((λ _. refuses (omega arith) (omega arith) here), λ _. moves law R at c k lies (marked _ (λ x. x)) refl)))

  file-step : (n at : ℕ) (c : List ℕ) (k : Jp2) → Lies f at c → ((m : Jp2) → box_length c ≤ length c → Reads P (heard n (at + box_length c) m) (at + box_length c) (rest c c) m (heard n (at + box_length c) m (rest c c))) → Reads P (heard (suc n) at k) at c k (heard (suc n) at k c)
  unfolding split run
  file-step n at c k lies ih =
      let R = heard (suc n) at k in
      let on : Moves P R at c k k = stays law R at c k lies in
      each (λ bs. Reads P R at c k (run bs k)) _ (
        (λ _. on),
        λ some. (
          (λ _. on),
          λ header. (
            (λ _. on),
            λ low. (
              (λ z.
                  let b = box-all c z in
                  let w : Whole c = record { header = header; least = omega arith; within = omega arith } in
                  whole-reads at c k lies header R (λ m _. ended m) ended w (λ m. stays law _ (at + box_length c) _ m (lies_drop lies (box_length c) w.within))
                  (λ s m r. heard-last n at c k m (record { some = some; low = low; whole = w }) s r z)),
              λ z. (
                (λ _. each (Reads P R at c k) _ ((λ _. stream-reads at c k lies header R), λ _. refuses (omega arith) (omega arith) (omega arith))),
                λ least. (
                  (λ _. each (Reads P R at c k) _ ((λ _. stream-reads at c k lies header R), λ _. past-reads at c k lies header R)),
                  λ within.
                      let w : Whole c = record { header = header; least = least; within = within } in
                      whole-reads at c k lies header R (heard n (at + box_length c)) (run (split n (at + box_length c) (rest c c))) w (λ m. ih m within)
                      (λ s m r. heard-next n at c k m (record { some = some; low = low; whole = w }) s r z),
                ),
              ),
            ),
          ),
        ),
      )

  pub file-reads : (n at : ℕ) (c : List ℕ) (k : Jp2) → Lies f at c → Reads P (heard n at k) at c k (heard n at k c)
  unfolding split run
  file-reads zero at c k lies = stays law _ at c k lies
  file-reads (suc n) at c k lies = file-step n at c k lies (λ m l. file-reads n (at + box_length c) (rest c c) m (lies_drop lies (box_length c) l))
