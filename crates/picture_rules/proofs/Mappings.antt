-- Channels with a mapping and without one: their components, and that these exist.
-- Assumes nothing.
use Prim.Native.Nat.{ℕ, ◌≤◌, ◌<◌}
use mathlib.Core.Path.{◌≡◌, refl, sym}
use mathlib.Core.Bool.{true, false}
use mathlib.Core.List.{List}
use native.Mathlib.Omega.{arith}
use Rattle.box_number.proofs.Rows.{Says, row, each}
use Rattle.read_record.specs.declared.Jp2.{Jp2}
use Rattle.read_channels.specs.Cmap.{CMP}
use Rattle.picture_rules.specs.Image.{Image}
use Rattle.picture_rules.specs.Channels.{mapped, channels, component_of, type_of}
use Rattle.picture_rules.specs.Check.{mismapped}
use Rattle.picture_rules.specs.Finish.{outside_lists, outside_file, counted}
use Rattle.picture_rules.specs.Handed.{Settings, Handed}
use Rattle.box_number.proofs.Indices.{lowest-none}
use Rattle.picture_rules.proofs.Packs.{Within}
use Rattle.picture_rules.proofs.Checks.{Checked}

-- a mapping for each column of the palette, and an entry where there is a column
pub record Kept (m : Jp2) : Type 0 where
  pub columns : Says true (mapped m) → m.lists.cmap.count ≡ m.lists.pclr.columns
  pub entries : Says true (mapped m) → 0 < m.lists.pclr.entries

pub kept : (f : List ℕ) (m : Jp2) → Says false (outside_file f m) → Kept m
kept f m inside =
    record {
      columns = λ h. (inside.1.0 h).0;
      entries = λ h. let e = (inside.1.0 h).0 in omega (arith, (inside.0 (λ z. h (omega arith))).0);
    }

-- also where the settings leave nothing of the lists
pub kept-counted : {m : Jp2} (s : Settings) → Kept m → Kept (counted s m)
unfolding counted
kept-counted s k = each Kept _ ((λ _. k), λ _. record { columns = λ h. absurd (h refl); entries = λ h. absurd (h refl) })

-- there are at most 16384 channels
pub channels-few : (f : List ℕ) (m : Jp2) (i : Image) → Says false (outside_lists i) → Says false (outside_file f m) → channels m i.count ≤ 16384
unfolding channels
channels-few f m i lists file =
    each (λ n. n ≤ 16384) _
    ((λ h. let e = (file.1.0 h).0 in let n = (file.0 (λ z. h (omega arith))).1.1.0 in omega arith), λ h. lists.0)

module _ (m : Jp2) where
  -- a channel has a mapping, or is a component
  pub channel-cases : {X : Type 0} (n c : ℕ) → Kept m → c < channels m n → (Says true (mapped m) → c < m.lists.cmap.count → X) → (Says false (mapped m) → c < n → X) → X
  unfolding channels
  channel-cases {X} n c k l direct plain = each (λ a. c < a → X) _ ((λ h b. direct h (omega (arith, k.columns h))), λ h b. plain h b) l

  pub mapped-channels : (n : ℕ) → Says true (mapped m) → channels m n ≡ m.lists.pclr.columns
  unfolding channels
  mapped-channels n h = sym (row 0 _ h refl)

  module _ (f : List ℕ) (c : ℕ) where
    pub mapped-component : Says true (mapped m) → component_of f m c ≡ CMP f m.lists.cmap c
    unfolding component_of
    mapped-component h = sym (row 0 _ h refl)

    pub plain-component : Says false (mapped m) → component_of f m c ≡ c
    unfolding component_of
    plain-component h = sym (row 1 _ (h, tt) refl)

    pub plain_type : (n : ℕ) → Says false (mapped m) → type_of f m n c ≡ 0
    unfolding type_of
    plain_type n h = sym (row 2 _ ((λ z. absurd (z h)), (h, tt)) refl)

-- every channel's component exists, and its samples lie in the list
module _ (f : List ℕ) (m : Jp2) (i : Image) (kept : Kept m) (mapping : (c : ℕ) → c < m.lists.cmap.count → Says false (mismapped f m.lists.cmap i.count c)) (c : ℕ) (l : c < channels m i.count) where
  pub component-below : component_of f m c < i.count
  component-below =
      channel-cases m i.count c kept l
      (λ t b. omega (arith, mapped-component m f c t, (mapping c b).0))
      (λ t b. omega (arith, plain-component m f c t))

  pub component-inside : Says false (outside_lists i) → Within i (component_of f m c)
  component-inside inside = lowest-none _ _ inside.1.1.1 (component_of f m c) component-below

pub component-within : (h : Handed) (m : Jp2) → Kept m → Checked h m → (c : ℕ) → c < channels m h.image.count → Says false (outside_lists h.image) → Within h.image (component_of h.file m c)
component-within h m kept checked = component-inside h.file m h.image kept checked.mapping
