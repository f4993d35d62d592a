-- Every request is answered by the first bound that it breaks, or written.
-- Assumes nothing.
use Prim.Native.Nat.{ℕ, zero, suc, ◌+◌, ◌*◌, ◌≤◌, ◌<◌}
use mathlib.Core.Path.{◌≡◌, refl, sym, ap, ◌∙◌}
use mathlib.Core.List.{List, []}
use mathlib.Core.Bool.{true, false}
use native.Mathlib.Omega.{arith}
use lib.ListN.{length}
use Rattle.box_number.proofs.Rows.{Says, each}
use Rattle.box_number.proofs.Bytes.{length-bytes}
use Rattle.box_number.proofs.Indices.{lowest-passes, lowest-none, lowest-past}
use Rattle.box_kind.specs.declared.Jp2BoxType.TheVariants.{COLR, CDEF}
use Rattle.box_number.specs.Lowest.{lowest}
use Rattle.box_refusal.specs.Told.{accepted}
use Rattle.write_rules.specs.Request.{Request}
use Rattle.write_rules.specs.Words.{Corners, SameBits, OtherBits, Opacity}
use Rattle.write_rules.specs.Setup.{wrapping, fields_of, ill, set_up}
use Rattle.write_rules.specs.Bpcc.{bpcc}
use Rattle.write_rules.specs.Colr.{colr, colr_content}
use Rattle.write_rules.specs.Cdef.{cdef, cdef_content}
use Rattle.write_rules.specs.Writing.{Writing, written, declined, write_fields, after_set_up, write}
use Rattle.write_rules.specs.Cases.{profiled_by, LongestProfile}
use Rattle.write_rules.specs.Accepts.{Counted, Listed, Sound, AllSound, Sized, Within, Needs, TableAnswer, by31, by29, by32, by33, by34, by30, passes, EveryAnswer, Accepts, OneNeed}
use Rattle.write_rules.proofs.Bounds.{Fit, bytes_for}
use Rattle.write_rules.proofs.Words.{bits_or, other-bits, one_byte, profile_or, meth-enumerated, meth-profiled, opacity_or, all-defined, none-defined}
use Rattle.write_rules.proofs.Lengths.{length-box, length-bpcc_content, length-colr_content, length-cdef_content}
use Rattle.write_rules.proofs.Children.{spec_one, spec_two}
use Rattle.write_rules.proofs.Header.{bpcc-none, bpcc-some, cdef-none, cdef-some, length_children}
use Rattle.write_rules.proofs.Whole.{length_front}

-- the bytes of a request that only 30 may refuse
module _ (r : Request) (fit : Fit r) where
  same_length : SameBits r → length (bpcc r.components (fields_of r)) ≡ 0
  same_length s = rw (bpcc-none r (one_byte r fit s)).0 refl

  other_length : (c : ℕ) → OtherBits r c → length (bpcc r.components (fields_of r)) ≡ 8 + r.count
  other_length c o = rw ((bpcc-some r (other-bits r c o)).0, length-box, length-bpcc_content r.components r.count) refl

  pub space-length : r.profile ≡ [] → length (colr (fields_of r) r.profile) ≡ 15
  space-length e = rw (length-box COLR (colr_content (fields_of r) r.profile), length-colr_content (fields_of r) r.profile, spec_one r fit (meth-enumerated r e), length-bytes) refl

  profile-length : (r.profile ≡ [] → ⊥) → length (colr (fields_of r) r.profile) ≡ 11 + length r.profile
  profile-length n = rw (length-box COLR (colr_content (fields_of r) r.profile), length-colr_content (fields_of r) r.profile, spec_two r fit (meth-profiled r n)) (omega arith)

  defined-length : (o : ℕ) → Opacity r o → length (cdef r.components (fields_of r)) ≡ 10 + 6 * r.count
  defined-length o p =
      let n = all-defined r o p in
      let there = p.there in
      rw ((cdef-some r (λ z. omega arith)).0, length-box CDEF (cdef_content r.components (fields_of r)), length-cdef_content r.components (fields_of r), n) (omega arith)

  undefined-length : ((o : ℕ) → Opacity r o → ⊥) → length (cdef r.components (fields_of r)) ≡ 0
  undefined-length n = rw (cdef-none r (none-defined r n)).0 refl

  needed : Needs r (length (bytes_for r))
  needed =
      record {
        bpcc = length (bpcc r.components (fields_of r));
        colr = length (colr (fields_of r) r.profile);
        cdef = length (cdef r.components (fields_of r));
        whole = omega (arith, length_front r fit, length_children r fit);
        same = same_length;
        other = other_length;
        space = space-length;
        profile = profile-length;
        defined = defined-length;
        undefined = undefined-length;
      }

-- a difference that wraps is 0 where the corners are the same
wrapping-none : (a b : ℕ) → b ≡ a → wrapping a b ≡ 0
unfolding wrapping
wrapping-none a b e = omega arith

wrapping-some : (a b : ℕ) → a < 4294967296 → b < 4294967296 → wrapping a b ≡ 0 → b ≡ a
unfolding wrapping
wrapping-some a b l h e = omega arith

module _ (r : Request) (corners : Corners r) where
  -- the rows from 33 on
  fields-answered : Counted r → Listed r → AllSound r → TableAnswer r (after_set_up r (accepted (fields_of r)))
  unfolding write_fields
  fields-answered counted listed sound =
      each (TableAnswer r) _ (
        (λ flat. by33 counted listed sound (λ s. s.1 (wrapping-some _ _ corners.right (omega (arith, corners.left)) (flat (λ e. s.0 (wrapping-some _ _ corners.bottom corners.top e)))))),
        λ size.
            let sized : Sized r = ((λ e. size.0 (wrapping-none _ _ e)), (λ e. size.1 (wrapping-none _ _ e))) in (
              (λ long. by34 counted listed sound sized (λ s. omega (arith, long s.0))),
              λ short.
                  let within : Within r = record { counted = counted; listed = listed; sound = sound; sized = sized; short = short } in
                  let fit : Fit r = record { some = counted.0; most = counted.1; bits = sound; high = size.0; wide = size.1; profile = short.0; codestream = short.1 } in
                  ((λ little. by30 within (length (bytes_for r)) (needed r fit) little), λ room. passes within (bytes_for r) (needed r fit) room),
            ),
      )

-- a component that 32 lets through, and one that it does not
sound-is : (r : Request) (c : ℕ) → Says false (ill r.components c) → Sound r c
sound-is r c i = (omega arith, omega arith, omega arith)

unsound : (r : Request) (c : ℕ) → Says true (ill r.components c) → Sound r c → ⊥
unsound r c i s = let sign = i (λ e. omega arith) s.1 in omega arith

pub every-answer : EveryAnswer
unfolding write set_up
every-answer r corners =
    each (λ x. TableAnswer r (after_set_up r x)) _ (
      (λ bad. by31 (λ k. omega (arith, bad (λ e. omega arith)))),
      λ count.
          let counted : Counted r = (omega arith, omega arith) in (
            (λ short. by29 counted (λ l. omega arith)),
            λ listed. (
              (λ wrong. by32 counted listed (lowest (ill r.components) r.count) wrong (λ i b. sound-is r i (lowest-past (ill r.components) r.count i b)) (unsound r _ (lowest-passes (ill r.components) r.count wrong))),
              λ right. fields-answered r corners counted listed (λ c l. sound-is r c (lowest-none (ill r.components) r.count right c l)),
            ),
          ),
    )

pub one_need : OneNeed
one_need r m n a b =
    let p : a.bpcc ≡ b.bpcc = bits_or r (λ s. a.same s ∙ sym (b.same s)) (λ c o. a.other c o ∙ sym (b.other c o)) in
    let q : a.colr ≡ b.colr = profile_or r (λ e. a.space e ∙ sym (b.space e)) (λ e. a.profile e ∙ sym (b.profile e)) in
    let s : a.cdef ≡ b.cdef = opacity_or r (λ o h. a.defined o h ∙ sym (b.defined o h)) (λ h. a.undefined h ∙ sym (b.undefined h)) in
    omega (arith, a.whole, b.whole)

-- of the answers only one is for a request within the bounds and with room
let_through : (r : Request) (w : Writing) → TableAnswer r w → Within r → (n : ℕ) → Needs r n → n ≤ r.room → (bs : List ℕ) × (w ≡ written bs) × (length bs ≡ n)
let_through r w (by31 no-count) within n needs room = absurd (no-count within.counted)
let_through r w (by29 _ no-list) within n needs room = absurd (no-list within.listed)
let_through r w (by32 _ _ c l _ unsound) within n needs room = absurd (unsound (within.sound c l))
let_through r w (by33 _ _ _ flat) within n needs room = absurd (flat within.sized)
let_through r w (by34 _ _ _ _ long) within n needs room = absurd (long within.short)
let_through r w (by30 _ m need little) within n needs room = absurd (omega (arith, one_need r m n need needs))
let_through r w (passes _ bs need _) within n needs room = (bs, refl, one_need r (length bs) n need needs)

pub accepts : Accepts
accepts r corners within n needs room = let_through r (write r) (every-answer r corners) within n needs room

-- the longest profile
module _ (profile : List ℕ) where
  abbrev r : Request
  r = profiled_by profile

  corners_small : Corners r
  corners_small = record { left = omega arith; top = omega arith; right = omega arith; bottom = omega arith }

  all_sound : AllSound r
  all_sound zero l = (omega arith, omega arith, omega arith)
  all_sound (suc c) l = absurd (omega arith)

  sized_so : Sized r
  sized_so = ((λ e. omega arith), (λ e. omega arith))

  too_long : (w : Writing) → TableAnswer r w → length profile ≡ 16777216 → w ≡ declined 34 0
  too_long w (by31 no-count) e = absurd (no-count (omega arith, omega arith))
  too_long w (by29 _ no-list) e = absurd (no-list (omega arith))
  too_long w (by32 _ _ c l _ bad) e = absurd (bad (all_sound c l))
  too_long w (by33 _ _ _ flat) e = absurd (flat sized_so)
  too_long w (by34 _ _ _ _ long) e = refl
  too_long w (by30 within _ _ _) e = absurd (omega (arith, within.short.0))
  too_long w (passes within _ _ _) e = absurd (omega (arith, within.short.0))

  module _ (e : length profile ≡ 16777215) where
    not_empty : profile ≡ [] → ⊥
    not_empty z = omega (arith, ap length z)

    same_so : SameBits r
    same_so zero l = refl
    same_so (suc c) l = absurd (omega arith)

    bytes-needed : (n : ℕ) → Needs r n → n ≡ 16777296
    bytes-needed n need = omega (arith, need.whole, need.same same_so, need.profile not_empty, need.undefined (λ o p. not_empty p.enumerated))

    longest : (w : Writing) → TableAnswer r w → (bs : List ℕ) × (w ≡ written bs) × (length bs ≡ 16777296)
    longest w (by31 no-count) = absurd (no-count (omega arith, omega arith))
    longest w (by29 _ no-list) = absurd (no-list (omega arith))
    longest w (by32 _ _ c l _ bad) = absurd (bad (all_sound c l))
    longest w (by33 _ _ _ flat) = absurd (flat sized_so)
    longest w (by34 _ _ _ _ long) = absurd (long (omega arith, omega arith))
    longest w (by30 _ n need little) = absurd (omega (arith, bytes-needed n need))
    longest w (passes _ bs need _) = (bs, refl, bytes-needed (length bs) need)

pub longest-profile : LongestProfile
longest-profile profile =
    let answer = every-answer (profiled_by profile) (corners_small profile) in
    ((λ e. longest profile e (write (profiled_by profile)) answer), too_long profile (write (profiled_by profile)) answer)
