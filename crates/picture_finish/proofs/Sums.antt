-- The sum over the channels in their order is where the next one starts.
-- Assumes nothing.
use Rattle.std.proofs.Common.{ℕ, zero, suc, ◌*◌, ◌≤◌, ◌<◌, ◌≡◌, List, map, sum, refl, arith}
use Rattle.std.specs.List.{range_with_len}
use Rattle.box_number.proofs.Sums.{sum-amounts}
use Rattle.read_record.specs.declared.Jp2.{Jp2}
use Rattle.picture_rules.specs.Image.{Image, size}
use Rattle.picture_rules.specs.Channels.{component_of}
use Rattle.picture_rules.specs.Samples.{start_of}

module _ (f : List ℕ) (m : Jp2) (i : Image) where
  pub sum-sizes : (n : ℕ) → sum (map (λ c. size i (component_of f m c)) (range_with_len 0 n)) ≡ start_of f m i n
  unfolding start_of
  sum-sizes = sum-amounts (start_of f m i) (λ c. size i (component_of f m c)) refl (λ n. refl)

  pub sum-most : (n : ℕ) → ((c : ℕ) → c < n → size i (component_of f m c) ≤ 4294967294) → start_of f m i n ≤ 4294967294 * n
  unfolding start_of
  sum-most zero h = omega arith
  sum-most (suc n) h = omega (arith, h n (omega arith), sum-most n (λ c l. h c (omega arith)))
