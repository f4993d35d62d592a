-- What an accepted request says of its numbers: every field fits in its bytes.
-- Assumes nothing.
use Prim.Native.Nat.{ℕ, ◌+◌, ◌/◌, ◌%◌, ◌≤◌, ◌<◌}
use mathlib.Core.Path.{◌≡◌, refl, sym}
use mathlib.Core.List.{List}
use mathlib.Core.Bool.{false}
use native.Mathlib.Nat.{mod-lt}
use native.Mathlib.Omega.{arith}
use lib.ListN.{length}
use Rattle.box_number.specs.Table.{◌=?◌}
use Rattle.box_number.proofs.Rows.{Says, row, each}
use Rattle.read_channels.specs.Definitions.{Def}
use Rattle.box_number.proofs.Indices.{decide, lowest-none}
use Rattle.box_refusal.specs.Told.{accepted}
use Rattle.write_rules.specs.Request.{Request, precision, sign_of}
use Rattle.read_record.specs.Component.{most_components}
use Rattle.write_rules.specs.Setup.{wrapping, BPCi, BPC, METH, EnumCS, N, written_definition, varies, other_bits, most_bits, fields_of, ill, set_up}
use Rattle.write_rules.specs.Writing.{Writing, written, declined, front, most_profile, most_codestream, write_fields, after_set_up, write}

-- what no row of the table refuses
pub record Fit (r : Request) : Type 0 where
  pub some : 1 ≤ r.count
  pub most : r.count ≤ most_components
  pub bits : (c : ℕ) → c < r.count → (1 ≤ precision r.components c) × (precision r.components c ≤ most_bits) × (sign_of r.components c ≤ 1)
  pub high : (fields_of r).h ≡ 0 → ⊥
  pub wide : (fields_of r).w ≡ 0 → ⊥
  pub profile : length r.profile ≤ most_profile
  pub codestream : r.codestream ≤ most_codestream

never : {X : Type 0} {number place : ℕ} {bs : List ℕ} → declined number place ≡ written bs → X
never e = let z : ◌≡◌ {A = ℕ} 0 1 = cc in absurd (omega arith)

-- the bytes that are written for a request
abbrev pub bytes_for : Request → List ℕ
bytes_for r = front r.components (fields_of r) r.profile r.codestream

module _ (r : Request) (bs : List ℕ) where
  abbrev Accepted : Writing → Type 0
  Accepted w = w ≡ written bs → Fit r × (bs ≡ bytes_for r)

  -- the rows from 33 on
  fields_fit : (1 ≤ r.count) → (r.count ≤ most_components) → ((c : ℕ) → c < r.count → Says false (ill r.components c)) → Accepted (after_set_up r (accepted (fields_of r)))
  unfolding write_fields
  fields_fit some most right =
      each Accepted _ (
        (λ _ e. never e),
        λ size. (
          (λ _ e. never e),
          λ lengths. (
            (λ _ e. never e),
            λ _ e. (
              record {
                some = some;
                most = most;
                bits = λ c l. let i = right c l in (omega (arith, i), omega (arith, i), omega (arith, i));
                high = size.0;
                wide = size.1;
                profile = lengths.0;
                codestream = lengths.1;
              },
              cc,
            ),
          ),
        ),
      )

  pub accepted-fits : write r ≡ written bs → Fit r × (bs ≡ bytes_for r)
  unfolding write set_up
  accepted-fits =
      each (λ x. Accepted (after_set_up r x)) _ (
        (λ _ e. never e),
        λ count. (
          (λ _ e. never e),
          λ _. ((λ _ e. never e), λ right. fields_fit (omega arith) (omega arith) (lowest-none (ill r.components) r.count right)),
        ),
      )

-- the way from b to a, in steps that wrap at 2^32
pub wrapping_back : (a b : ℕ) → a < 4294967296 → b < 4294967296 → (b + wrapping a b) % 4294967296 ≡ a
unfolding wrapping
wrapping_back a b l h = omega arith

pub wrapping-most : (a b : ℕ) → wrapping a b < 4294967296
unfolding wrapping
wrapping-most a b = mod-lt _ (omega arith)

-- the bits and the sign of a component that is not refused are a byte
pub depth_most : (comps : List ℕ) (c : ℕ) → Says false (ill comps c) → BPCi comps c < 256
unfolding BPCi
depth_most comps c well = omega (arith, well)

module _ (r : Request) (fit : Fit r) where
  pub byte-most : (c : ℕ) → c < r.count → BPCi r.components c < 256
  byte-most c l = let b = fit.bits c l in depth_most r.components c (omega arith)

  pub bpc-most : (fields_of r).bpc < 256
  unfolding BPC
  bpc-most = each (λ n. n < 256) _ ((λ _. omega arith), λ _. byte-most 0 fit.some)

  -- the precision of a component from its byte
  pub byte-precision : (c : ℕ) → c < r.count → BPCi r.components c % 128 + 1 ≡ precision r.components c
  unfolding BPCi
  byte-precision c l = omega (arith, fit.bits c l)

  -- and its sign
  pub byte-sign : (c : ℕ) → c < r.count → BPCi r.components c / 128 ≡ sign_of r.components c
  unfolding BPCi
  byte-sign c l = omega (arith, fit.bits c l)

  -- BPC is 255, or the first component's byte where all have its precision
  pub one-depth : ((fields_of r).bpc ≡ varies → ⊥) → ((fields_of r).bpc ≡ BPCi r.components 0) × ((c : ℕ) → c < r.count → precision r.components c ≡ precision r.components 0)
  unfolding BPC
  one-depth =
      each (λ n. (n ≡ varies → ⊥) → (n ≡ BPCi r.components 0) × ((c : ℕ) → c < r.count → precision r.components c ≡ precision r.components 0)) _
      ((λ _ h. absurd (h refl)), λ same _. (refl, lowest-none (other_bits r.components) r.count same))

  -- definitions are of all components or of none
  pub n-most : (fields_of r).definitions ≤ r.count
  unfolding N
  n-most = each (λ n. n ≤ r.count) _ ((λ _. omega arith), λ _. ((λ _. omega arith), λ _. ((λ _. omega arith), λ _. omega arith)))

module _ (r : Request) where
  pub meth-one : length r.profile ≡ 0 → (fields_of r).meth ≡ 1
  unfolding METH
  meth-one z = sym (row 0 _ z refl)

  pub meth-two : (length r.profile ≡ 0 → ⊥) → (fields_of r).meth ≡ 2
  unfolding METH
  meth-two z = sym (row 1 _ (z, tt) refl)

  pub no-space : (fields_of r).meth ≡ 2 → (fields_of r).enumcs ≡ 0
  unfolding EnumCS
  no-space e = sym (row 0 _ e refl)

  -- METH, and what goes with it
  pub meth-cases : {X : Type 0} → ((fields_of r).meth ≡ 1 → length r.profile ≡ 0 → X) → ((fields_of r).meth ≡ 2 → (fields_of r).enumcs ≡ 0 → X) → X
  meth-cases one two = decide (length r.profile =? 0) (λ z. one (meth-one z) z) (λ z. two (meth-two z) (no-space (meth-two z)))

  -- a colour space that is enumerated is none of CIELab's
  pub space-most : ((fields_of r).enumcs < 256) × ((fields_of r).enumcs ≡ 14 → ⊥)
  unfolding EnumCS
  space-most =
      each (λ n. (n < 256) × (n ≡ 14 → ⊥)) _
      ((λ _. omega arith), λ _. ((λ _. omega arith), λ _. ((λ _. omega arith), λ _. ((λ _. omega arith), λ _. omega arith))))

  abbrev Small : Def → Type 0
  Small d = (d.channel < 65536) × (d.typ < 65536) × (d.asoc < 65536)

  pub definition-most : (c : ℕ) → c < 16384 → Small (written_definition r.components (fields_of r).colours c)
  unfolding written_definition
  definition-most c l = each Small _ ((λ _. omega arith), λ _. ((λ _. omega arith), λ _. omega arith))
