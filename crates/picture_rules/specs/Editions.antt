-- Document 02, request R-2: edition 1 is what it was before there were two, and there are two.
use Rattle.std.specs.Prelude.{ℕ, ◌+◌, ◌-◌, ◌<◌, ◌≡◌, List}
use Rattle.box_number.specs.Table.{◌=?◌, ◌≠?◌, ◌<?◌, ◌or◌, ◌and◌, otherwise, ◌⇒◌∣◌, holds, table}
use Rattle.box_number.specs.Lowest.{lowest}
use Rattle.read_record.specs.declared.Span.{Span}
use Rattle.read_record.specs.declared.Jp2.{Jp2}
use Rattle.read_record.specs.Component.{alpha, numbers_each}
use Rattle.read_channels.specs.Cdef.{Cn}
use Rattle.read_channels.specs.Definitions.{Def}
use Rattle.picture_rules.specs.Definitions.{whole_image, unassociated, Reordered}
use Rattle.picture_rules.specs.Edition.{order_free_numbers}
use Rattle.picture_rules.specs.Order.{Arranged, swapped, marked, define, arranged}
use Rattle.picture_rules.specs.Rules.{Once}
use Rattle.picture_rules.specs.Check.{undefined}
use Rattle.picture_rules.specs.Handed.{Handed, settings}
use Rattle.picture_rules.specs.Image.{Image, component}
use Rattle.picture_rules.specs.Finish.{finished, finish}
use Rattle.picture_rules.specs.OrderFreedom.{SamePlanes}

-- the same picture in another edition
abbrev pub with_edition : ℕ → Handed → Handed
with_edition edition2 h = record { file = h.file; image = h.image; settings = settings h.settings.ignore edition2; records = h.records; samples = h.samples }

-- flag 0: the statements of before, which are document 01's words, for a definition, for number 26 and for order freedom, which leaves marks aside
pub record FirstEdition : Type 0 where
  pub defines :
      (n : ℕ) (d : Def) (a : Arranged) →
      let p = a.seat d.channel in
      define 0 n d a ≡
      table
      (n <? p + 1 ⇒ a
      ∣ d.asoc =? whole_image or d.asoc =? unassociated ⇒ marked p d.typ a
      ∣ n <? d.asoc ⇒ a
      ∣ d.typ =? 0 ⇒ marked p 0 (swapped p (d.asoc - 1) a)
      ∣ otherwise (marked p d.typ a))
  pub counts : (f : List ℕ) (l : Span) (c : ℕ) → holds (undefined 0 f l c) ≡ holds (l.count ≠? 0 and 0 <? c and lowest (λ j. Cn f l j =? c) l.count =? l.count)
  pub order_free :
      (n : ℕ) (ds es : List Def) (records : ℕ → ℕ → ℕ) → n < 65536 → Once ds → Reordered ds es →
      (p k : ℕ) → k < alpha → (arranged 0 n ds records).records p k ≡ (arranged 0 n es records).records p k
  pub same-planes : (planes others : Image) → SamePlanes 0 planes others → (p k : ℕ) → p < planes.count → k < alpha → component others p k ≡ component planes p k

-- every other flag is edition 2: a colour definition marks its own channel's record, 26 counts every channel, and order freedom leaves nothing aside
pub record SecondEdition : Type 0 where
  pub defines :
      (n : ℕ) (d : Def) (a : Arranged) →
      let p = a.seat d.channel in
      define 1 n d a ≡
      table
      (n <? p + 1 ⇒ a
      ∣ d.asoc =? whole_image or d.asoc =? unassociated ⇒ marked p d.typ a
      ∣ n <? d.asoc ⇒ a
      ∣ d.typ =? 0 ⇒ marked (d.asoc - 1) 0 (swapped p (d.asoc - 1) a)
      ∣ otherwise (marked p d.typ a))
  pub counts : (f : List ℕ) (l : Span) (c : ℕ) → holds (undefined 1 f l c) ≡ holds (l.count ≠? 0 and lowest (λ j. Cn f l j =? c) l.count =? l.count)
  pub leaves_nothing : order_free_numbers 1 ≡ numbers_each
  -- any flag but 0 says the same
  pub any_flag : (h : Handed) (m : Jp2) (edition2 : ℕ) → (edition2 ≡ 0 → ⊥) → finish (with_edition edition2 h) m ≡ finish (with_edition 1 h) m
  -- what it accepts edition 1 accepts too, and with the same planes at the same places, marks aside
  pub as_first : (h : Handed) (m : Jp2) (planes : Image) → finish (with_edition 1 h) m ≡ finished planes → (others : Image) × (finish (with_edition 0 h) m ≡ finished others) × SamePlanes 0 planes others
