-- Order freedom: definitions in another order are accepted as well, and give the same planes at the same places.
-- Assumes nothing.
use Prim.Native.Nat.{ℕ, ◌≤◌, ◌<◌}
use mathlib.Core.Path.{◌≡◌, refl, sym, ap, ap₂, subst, subst₂, ◌∙◌}
use mathlib.Core.List.{List}
use native.Mathlib.Nat.{le_refl}
use native.Mathlib.Omega.{arith}
use Rattle.box_number.proofs.Rows.{row, each}
use Rattle.read_record.specs.declared.Jp2.{Jp2}
use Rattle.read_record.specs.Answer.{Result, accepted}
use Rattle.read_rules.specs.File.{read}
use Rattle.read_rules.specs.Alike.{given}
use Rattle.read_rules.proofs.Definitions.{definitions-free}
use Rattle.read_rules.proofs.Frees.{palette-free, mappings-free}
use Rattle.read_channels.specs.Definitions.{definitions}
use Rattle.picture_rules.specs.Edition.{order_free_numbers}
use Rattle.picture_rules.specs.Order.{arranged}
use Rattle.picture_rules.specs.Rules.{Once, OrderFree}
use Rattle.picture_rules.specs.Image.{Image, image}
use Rattle.picture_rules.specs.Handed.{EditionTwo}
use Rattle.picture_rules.specs.Channels.{channels}
use Rattle.picture_rules.specs.Finish.{expanded, picture}
use Rattle.picture_rules.specs.Words.{Handed, Accepted, IsAccepted, Defined, Clear}
use Rattle.picture_rules.specs.OrderFreedom.{with_file, AlikeButOrder, SamePlanes, OrderFreedom}
use Rattle.picture_rules.proofs.Flats.{flat-at, flat-alike}
use Rattle.picture_rules.proofs.Alike.{arranged-alike}
use Rattle.picture_rules.proofs.Checks.{passed, passes, applied}
use Rattle.picture_rules.proofs.Mappings.{Kept, kept, channels-few}
use Rattle.picture_rules.proofs.Agrees.{Agree, packed-same, expanded-same}
use Rattle.picture_rules.proofs.Accepts.{passed-same}

-- all that is free of order are numbers of a record
pub few-numbers : (edition2 k : ℕ) → k < order_free_numbers edition2 → k < 13
unfolding order_free_numbers
few-numbers edition2 k = each (λ many. k < many → k < 13) _ ((λ _ l. omega arith), λ _ l. l)

-- in edition 2 all numbers are
pub all-numbers : (edition2 k : ℕ) → (edition2 ≡ 0 → ⊥) → k < 13 → k < order_free_numbers edition2
unfolding order_free_numbers
all-numbers edition2 k second l = subst (λ many. k < many) (row 1 _ (second, tt) refl) l

module _ (edition2 : ℕ) {f g : List ℕ} {m : Jp2} (a : Agree f g m) (k : Kept m) (i : Image) (few : channels m i.count ≤ 16384) (free : OrderFree) (once : Once (definitions f m.lists.cdef)) where
  abbrev n : ℕ
  n = channels m i.count

  abbrev ours : ℕ → ℕ → ℕ
  ours = (arranged edition2 n (definitions f m.lists.cdef) (expanded f m i)).records

  abbrev theirs : ℕ → ℕ → ℕ
  theirs = (arranged edition2 n (definitions g m.lists.cdef) (expanded g m i)).records

  numbers-same : (p j : ℕ) → p < n → j < order_free_numbers edition2 → theirs p j ≡ ours p j
  numbers-same p j b l =
      arranged-alike edition2 n (definitions g m.lists.cdef) (expanded g m i) (expanded f m i) (λ c j h _. expanded-same a k i c h j) p j b (few-numbers edition2 j l)
      ∙ sym (free edition2 n (definitions f m.lists.cdef) (definitions g m.lists.cdef) (expanded f m i) (omega arith) once a.reordered p j l)

  planes-same : SamePlanes edition2 (picture edition2 f m i) (picture edition2 g m i)
  unfolding picture
  planes-same =
      record {
        count = refl;
        records = λ p j b l.
            let few = few-numbers edition2 j l in
            flat-at theirs n p j b few ∙ numbers-same p j b l ∙ sym (flat-at ours n p j b few);
        samples = packed-same a k i n (le_refl n);
      }

  pictures_equal : (edition2 ≡ 0 → ⊥) → picture edition2 g m i ≡ picture edition2 f m i
  unfolding picture
  pictures_equal second =
      ap₂ (λ c s. image c n s) (flat-alike theirs ours n (λ p j b l. numbers-same p j b (all-numbers edition2 j second l))) (packed-same a k i n (le_refl n))

-- a file is read to one record
pub only : {r : Result} {m k : Jp2} → r ≡ accepted m → r ≡ accepted k → k ≡ m
only e d = cc

module _ (h : Handed) (g : List ℕ) (m : Jp2) (o : AlikeButOrder h g m) where
  reads : given (read g) ≡ accepted m
  reads = ap given (definitions-free h.file g m o.reads o.alike) ∙ o.reads

  agree : Agree h.file g m
  agree = record { long = o.alike.long; palette = palette-free h.file g m o.reads o.alike; mappings = mappings-free h.file g m o.reads o.alike; reordered = o.reordered }

  -- the first of the two may be either
  pub either_first : AlikeButOrder (with_file g h) h.file m
  either_first =
      record {
        reads = reads;
        alike = record { long = sym o.alike.long; outside = λ i l out. sym (o.alike.outside i (omega (arith, o.alike.long)) out) };
        reordered = λ d. sym (o.reordered d);
      }

  both : (n : ℕ) → IsAccepted h n → IsAccepted (with_file g h) n
  unfolding picture
  both n (k, planes, y, e) =
      let z = subst (λ k. Accepted h k planes) (only o.reads y.reading) y in
      let p = passed h m planes z.finishing in
      (m, _, record { reading = reads; finishing = passes (with_file g h) m (passed-same h g m agree p.0) }, sym (ap (λ (made : Image). made.count) p.1) ∙ e)

  -- both are the pictures that are made of the two files, and what holds of these holds of them
  both-made :
      (P : Image → Image → Type 0) (k : Jp2) (planes others : Image) → Accepted h m planes → Accepted (with_file g h) k others → Defined h m →
      (Kept m → channels m h.image.count ≤ 16384 → P (picture h.settings.edition2 h.file m h.image) (picture h.settings.edition2 g m h.image)) → P planes others
  both-made P k planes others y z defined holds =
      let p = applied h m planes defined.applied y.finishing in
      let other = subst (λ k. Accepted (with_file g h) k others) (only reads z.reading) z in
      let q = applied (with_file g h) m others defined.applied other.finishing in
      subst₂ P (sym p.is_made) (sym q.is_made) (holds (kept h.file m p.file) (channels-few h.file m h.image p.lists p.file))

  same : OrderFree → (k : Jp2) (planes others : Image) → Accepted h m planes → Accepted (with_file g h) k others → Defined h m → Clear h m → SamePlanes h.settings.edition2 planes others
  same free k planes others y z defined clear =
      both-made (SamePlanes h.settings.edition2) k planes others y z defined (λ kept few. planes-same h.settings.edition2 agree kept h.image few free clear)

  equal : OrderFree → (k : Jp2) (planes others : Image) → Accepted h m planes → Accepted (with_file g h) k others → Defined h m → Clear h m → EditionTwo h.settings → others ≡ planes
  equal free k planes others y z defined clear second =
      both-made (λ planes others. others ≡ planes) k planes others y z defined (λ kept few. pictures_equal h.settings.edition2 agree kept h.image few free clear second)

pub order_freedom_from : OrderFree → OrderFreedom
order_freedom_from free =
    record {
      both = λ h g m n o. both h g m o n;
      neither = λ h g m n o. both (with_file g h) h.file m (either_first h g m o) n;
      same = λ h g m k planes others o. same h g m o free k planes others;
      equal = λ h g m k planes others o. equal h g m o free k planes others;
    }
