-- Demand 3: the picture rule and order freedom; what holds of every picture; and the marks of edition 2.
-- Assumes nothing.
use Prim.Native.Nat.{ℕ, ◌<◌}
use native.Mathlib.Omega.{arith}
use mathlib.Core.Path.{◌≡◌, ap, ap₂, subst, ◌∙◌}
use mathlib.Core.List.{[], ◌++◌, append-nil}
use Rattle.box_number.specs.Table.{◌<?◌}
use Rattle.box_number.proofs.Indices.{decide}
use Rattle.read_record.specs.declared.Jp2.{Jp2}
use Rattle.read_channels.specs.Definitions.{definition}
use Rattle.picture_rules.proofs.Rules.{order_free}
use Rattle.picture_rules.specs.Image.{Image, image}
use Rattle.picture_rules.specs.Finish.{counted}
use Rattle.picture_rules.specs.Handed.{EditionTwo}
use Rattle.picture_rules.specs.Words.{Handed, Accepted, Defined}
use Rattle.picture_rules.specs.OwnMark.{LastOf}
use Rattle.picture_rules.specs.PictureRule.{FilledPlanes, RightPlanes, PictureRule}
use Rattle.picture_rules.specs.EveryPicture.{EveryPlane, EveryPicture}
use Rattle.picture_rules.specs.OwnMarks.{MarkedBy, OwnMarks}
use Rattle.picture_rules.specs.OrderFreedom.{OrderFreedom}
use Rattle.picture_rules.proofs.Checks.{counted-all}
use Rattle.picture_rules.proofs.Destinations.{right-in-place, every-in-place}
use Rattle.picture_rules.proofs.Orders.{order_freedom_from}

-- what holds of a picture with nothing behind it holds of the picture
alone : (P : Image → Type 0) (planes : Image) → P (image (planes.components ++ []) planes.count (planes.samples ++ [])) → P planes
alone P planes = subst P (ap₂ (λ c s. image c planes.count s) (append-nil planes.components) (append-nil planes.samples))

pub picture_rule : PictureRule
picture_rule h m planes accepted defined clear = alone (RightPlanes h m) planes (right-in-place h m planes accepted defined clear [] [])

pub every-picture : EveryPicture
every-picture h m planes accepted = alone (EveryPlane h (counted h.settings m)) planes (every-in-place h m planes accepted [] [])

-- a channel has one last definition
one_last : (h : Handed) (m : Jp2) (c i j : ℕ) → LastOf h m c i → LastOf h m c j → i ≡ j
one_last h m c i j a b =
    decide (i <? j) (λ l. absurd (a.last j l b.below b.names)) (λ l. decide (j <? i) (λ g. absurd (b.last i g a.below a.names)) (λ g. omega arith))

module _ (h : Handed) (m : Jp2) (planes : Image) (defined : Defined h m) (second : EditionTwo h.settings) (filled : FilledPlanes h m planes) where
  marked_by : MarkedBy h m planes filled
  marked_by c j l w =
      let (k, v, e) = (filled.marks second c l).from-definition defined.present in
      e ∙ ap (λ i. (definition h.file m.lists.cdef i).typ) (one_last h m c k j v w)

  last-there : (c : ℕ) → c < planes.count → (j : ℕ) × LastOf h m c j
  last-there c l = let (k, v, e) = (filled.marks second c l).from-definition defined.present in (k, v)

-- where definitions are applied the whole record counts
every-applied : (h : Handed) (m : Jp2) (planes : Image) → Accepted h m planes → Defined h m → FilledPlanes h m planes
every-applied h m planes accepted defined = subst (λ k. FilledPlanes h k planes) (counted-all h.settings m defined.applied) (every-picture h m planes accepted).filled

pub own-marks : OwnMarks
own-marks =
    record {
      every = λ h m planes accepted defined second. let filled = every-applied h m planes accepted defined in (filled, marked_by h m planes defined second filled);
      right = λ h m planes accepted defined clear second. let right = picture_rule h m planes accepted defined clear in (right, marked_by h m planes defined second right.filled);
      all = λ h m planes accepted defined second. last-there h m planes defined second (every-applied h m planes accepted defined);
    }

pub order_freedom : OrderFreedom
order_freedom = order_freedom_from order_free
