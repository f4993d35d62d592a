-- The round trip is about every component and every definition.
-- Assumes nothing.
use Prim.Native.Nat.{ℕ, ◌+◌, ◌/◌, ◌%◌, ◌≤◌, ◌<◌}
use mathlib.Core.Path.{◌≡◌, refl}
use mathlib.Core.Logic.{inl, inr}
use native.Mathlib.Omega.{arith}
use mathlib.Core.List.{List}
use Rattle.read_record.specs.declared.Jp2.{Jp2}
use Rattle.read_channels.specs.Definitions.{def}
use Rattle.read_channels.specs.Definitions as order
use Rattle.write_rules.specs.Request.{Request, precision, sign_of}
use Rattle.write_rules.specs.Words.{OtherBits, colour_count, Opacity}
use Rattle.write_rules.specs.RoundTrip.{depth_byte, ReadBack}

module _ (r : Request) (f : List ℕ) (m : Jp2) (back : ReadBack r f m) where
  pub tells-bits : (c : ℕ) → c < r.count → depth_byte f m c % 128 + 1 ≡ precision r.components c
  tells-bits c l = back.depths.bits c l

  -- the sign of the first component, and of every one where bits differ
  pub tells_first_sign : 0 < r.count → depth_byte f m 0 / 128 ≡ sign_of r.components 0
  tells_first_sign l = back.depths.signs 0 (omega arith) (inl refl)

  pub tells-sign : (c d : ℕ) → c < r.count → OtherBits r d → depth_byte f m c / 128 ≡ sign_of r.components c
  tells-sign c d l o = back.depths.signs c l (inr (d, o))

  module _ (o : ℕ) (p : Opacity r o) where
    pub tells-colour : (c : ℕ) → c < colour_count r.space → order.definition f m.lists.cdef c ≡ def c 0 (c + 1)
    tells-colour c l = (back.channels.defined o p).colours c l

    pub tells-rest : (c : ℕ) → c < r.count → colour_count r.space ≤ c → (c ≡ o → ⊥) → order.definition f m.lists.cdef c ≡ def c 65535 65535
    tells-rest c l b d = (back.channels.defined o p).rest c l b d
