-- What is read back from the destination, by the round trip.
-- Assumes nothing.
use Prim.Native.Nat.{ℕ, ◌+◌, ◌-◌, ◌≤◌}
use native.Mathlib.Omega.{arith}
use mathlib.Core.Path.{◌≡◌, refl, sym, ap, ap₂, subst, ◌∙◌}
use mathlib.Core.List.{List, [], ◌++◌, append-nil}
use lib.ListN.{length, take, drop}
use lib.Seq.{take_at}
use Rattle.std.specs.Prelude as std
use Rattle.std.specs.Result.{result_unwrap_or}
use Rattle.box_number.specs.Number.{part, placed}
use Rattle.box_refusal.specs.declared.Refusal.{Refusal}
use Rattle.box_refusal.specs.Told.{Told, accepted, told}
use Rattle.read_record.specs.declared.Jp2.{Jp2}
use Rattle.read_rules.specs.File.{Walked, codestream, read}
use Rattle.write_rules.specs.Request.{Request}
use Rattle.write_rules.specs.Writing.{Writing, written, declined, write, destination}
use Rattle.write_rules.specs.RoundTrip.{ReadBack}
use Rattle.write_rules.proofs.RoundTrip.{round_trip}
use Rattle.write_boxes.specs.Answers.{answered}
use Rattle.trial_round_trip.specs.Back.{bytes_of, reading_of, ComesBack}

-- the count of the bytes
pub count-is : (w : std.Result ℕ (Refusal ℕ)) → result_unwrap_or w 0 ≡ bytes_of (told w)
count-is (std.Ok n) = refl
count-is (std.Err r) = refl

-- the part that is read
pub part-is : (w : Told ℕ) (d : List ℕ) {n : ℕ} {s : List ℕ} {b : Walked} → n ≡ bytes_of w → s ≡ part d 0 n → b ≡ read s → b ≡ reading_of w d
unfolding part
part-is w d {n} e p q =
    let z : n - 0 ≡ n = omega arith in
    q ∙ ap (λ s. read s) (p ∙ ap₂ take (z ∙ e) refl)

-- bytes at the front of a destination
front-is : (d bs : List ℕ) → take (length bs) (placed d 0 bs) ≡ bs
unfolding placed
front-is d bs = take_at bs (drop (0 + length bs) d) (length bs) refl

module _ (r : Request) (d : List ℕ) where
  -- by the round trip, with no codestream yet
  comes : (x : Writing) → write r ≡ x → {w : Told ℕ} {e : List ℕ} {b : Walked} → bytes_of w ≤ 4294967295 → w ≡ answered x → e ≡ destination d x → b ≡ reading_of w e → ComesBack r w e b
  unfolding answered destination
  comes (written bs) is {w} {e} {b} most a p q n h =
      let l : n ≡ length bs = cc in
      let k : bytes_of w ≡ n = ap bytes_of h in
      let front : take n e ≡ bs = ap₂ take l p ∙ front-is d bs in
      let trip = round_trip r bs [] is (omega arith) in
      let same : bs ++ [] ≡ bs = append-nil bs in (
        trip.0,
        q ∙ ap (λ s. read s) (ap (λ y. take y e) k ∙ front ∙ sym same) ∙ trip.1 ∙ ap (λ y. codestream y trip.0) (sym l),
        rw front (subst (λ s. ReadBack r s trip.0) same trip.2),
      )
  comes (declined number place) is most a p q n h = let z : ◌≡◌ {A = ℕ} 0 1 = cc in absurd (omega arith)

  pub comes_back : {w : Told ℕ} {e : List ℕ} {b : Walked} → bytes_of w ≤ 4294967295 → w ≡ answered (write r) → e ≡ destination d (write r) → b ≡ reading_of w e → ComesBack r w e b
  comes_back most a p q = comes (write r) refl most a p q

-- the promise says what is read back of bytes that were written
pub speaks : (r : Request) (n : ℕ) (d : List ℕ) (b : Walked) → ComesBack r (accepted n) d b → (m : Jp2) × (b ≡ codestream n m) × ReadBack r (take n d) m
speaks r n d b back = back n refl
