-- What passes the checks with one file passes them with another that agrees.
-- Assumes nothing.
use Prim.Native.Nat.{ℕ, ◌≤◌, ◌<◌}
use mathlib.Core.Path.{◌≡◌, sym, ap, ◌∙◌}
use mathlib.Core.Bool.{false}
use mathlib.Core.List.{List}
use native.Mathlib.Nat.{le_refl}
use native.Mathlib.Omega.{arith}
use Rattle.box_number.specs.Table.{◌=?◌}
use Rattle.box_number.proofs.Rows.{Says}
use Rattle.read_record.specs.declared.Jp2.{Jp2}
use Rattle.read_channels.specs.Cdef.{Cn}
use Rattle.read_channels.specs.Definitions.{Def}
use Rattle.box_number.specs.Lowest.{lowest}
use Rattle.picture_rules.specs.Channels.{channels}
use Rattle.picture_rules.specs.Check.{misnamed, undefined}
use Rattle.picture_rules.specs.Words.{Handed}
use Rattle.picture_rules.specs.OrderFreedom.{with_file}
use Rattle.box_number.proofs.Indices.{lowest-most, lowest-none, none-lowest}
use Rattle.picture_rules.proofs.Checks.{Checked, Passed}
use Rattle.picture_rules.proofs.Listed.{elsewhere}
use Rattle.picture_rules.proofs.Mappings.{Kept, kept, kept-counted}
use Rattle.picture_rules.proofs.Agrees.{Agree, agree-counted, outside-same, start-same}

module _ {f g : List ℕ} {m : Jp2} (a : Agree f g m) where
  -- 25: no definition is misnamed where none is in the other file
  named-same : (n : ℕ) → ((j : ℕ) → j < m.lists.cdef.count → Says false (misnamed f m.lists.cdef n j)) → (j : ℕ) → j < m.lists.cdef.count → Says false (misnamed g m.lists.cdef n j)
  named-same n named j l =
      let (k, b, e) = elsewhere g f m.lists.cdef (λ d. sym (a.reordered d)) j l in
      rw (ap (λ (d : Def). d.channel) e, ap (λ (d : Def). d.asoc) e) (named k b)

  -- 26: a channel is defined where it is in the other file
  defined-same : (edition2 c : ℕ) → Says false (undefined edition2 f m.lists.cdef c) → Says false (undefined edition2 g m.lists.cdef c)
  defined-same edition2 c defined some from none =
      let l = m.lists.cdef in
      let here : l.count ≤ lowest (λ j. Cn f l j =? c) l.count = none-lowest _ l.count (λ j b z. absent j b z) in
      defined some from (omega (arith, lowest-most (λ j. Cn f l j =? c) l.count))
    where
      absent : (j : ℕ) → j < m.lists.cdef.count → Cn f m.lists.cdef j ≡ c → ⊥
      absent j b z =
          let (k, d, e) = elsewhere f g m.lists.cdef a.reordered j b in
          lowest-none (λ j. Cn g m.lists.cdef j =? c) m.lists.cdef.count (omega arith) k d (ap (λ (d : Def). d.channel) (sym e) ∙ z)

module _ (h : Handed) (g : List ℕ) (m : Jp2) (a : Agree h.file g m) where
  checked-same : Kept m → Checked h m → Checked (with_file g h) m
  checked-same k c =
      let start = start-same a k h.image (channels m h.image.count) (le_refl _) in
      record {
        named = named-same a (channels m h.image.count) c.named;
        defined = λ x l. defined-same a h.settings.edition2 x (c.defined x l);
        mapping = λ x l. rw (a.mappings.component x l, a.mappings.type x l, a.mappings.column x l) (c.mapping x l);
        lent = λ x l. rw (a.mappings.component x l) (c.lent x l);
        record_room = c.record_room;
        most = omega (arith, c.most);
        sample-room = omega (arith, c.sample-room);
      }

pub passed-same : (h : Handed) (g : List ℕ) (m : Jp2) → Agree h.file g m → Passed h m → Passed (with_file g h) m
passed-same h g m a p =
    record {
      lists = p.lists;
      file = outside-same a p.file;
      checked = checked-same h g _ (agree-counted h.settings a) (kept-counted h.settings (kept h.file m p.file)) p.checked;
    }
