-- A picture is finished exactly where every check passes.
-- Assumes nothing.
use Prim.Native.Nat.{ℕ, ◌+◌, ◌*◌, ◌≤◌, ◌<◌}
use native.Mathlib.Omega.{arith}
use mathlib.Core.Path.{◌≡◌, refl, sym, ap, subst, ◌∙◌}
use mathlib.Core.Bool.{false}
use Rattle.box_number.proofs.Rows.{Says, row, each}
use Rattle.read_record.specs.declared.Jp2.{Jp2}
use Rattle.picture_rules.specs.Edition.{least_counted}
use Rattle.picture_rules.specs.Image.{Image}
use Rattle.picture_rules.specs.Channels.{channels}
use Rattle.picture_rules.specs.Samples.{start_of}
use Rattle.picture_rules.specs.Check.{misnamed, undefined, mismapped, dataless}
use Rattle.picture_rules.specs.Finish.{Finishing, finished, declined, outside_lists, outside_file, counted, picture, fitted, colour_checks, checks, finish}
use Rattle.picture_rules.specs.Handed.{Settings, Handed}
use Rattle.box_number.proofs.Indices.{lowest-none, none-lowest}

-- the least channel that an edition counts, in numbers: 1 in edition 1, and 0 in any other
pub counted-from : (edition2 c : ℕ) → least_counted edition2 < c + 1 → edition2 ≡ 0 → 1 ≤ c
unfolding least_counted
counted-from edition2 c = each (λ least. least < c + 1 → edition2 ≡ 0 → 1 ≤ c) _ ((λ _ l _. omega arith), λ second l first. absurd (second first))

pub from-counted : (edition2 c : ℕ) → (edition2 ≡ 0 → 1 ≤ c) → least_counted edition2 < c + 1
unfolding least_counted
from-counted edition2 c from = each (λ least. least < c + 1) _ ((λ first. omega (arith, from first)), λ _. omega arith)

-- 25 to 28 and 30 pass
pub record Checked (h : Handed) (m : Jp2) : Type 0 where
  pub named : (j : ℕ) → j < m.lists.cdef.count → Says false (misnamed h.file m.lists.cdef (channels m h.image.count) j)
  pub defined : (c : ℕ) → c < channels m h.image.count → Says false (undefined h.settings.edition2 h.file m.lists.cdef c)
  pub mapping : (c : ℕ) → c < m.lists.cmap.count → Says false (mismapped h.file m.lists.cmap h.image.count c)
  pub lent : (c : ℕ) → c < m.lists.cmap.count → Says false (dataless h.file m.lists.cmap h.image c)
  pub record_room : 13 * channels m h.image.count ≤ h.records
  pub most : start_of h.file m h.image (channels m h.image.count) ≤ 4294967294
  pub sample-room : start_of h.file m h.image (channels m h.image.count) ≤ h.samples

-- and 29 too; with what the settings leave of the record
pub record Passed (h : Handed) (m : Jp2) : Type 0 where
  pub lists : Says false (outside_lists h.image)
  pub file : Says false (outside_file h.file m)
  pub checked : Checked h (counted h.settings m)

-- what holds of the planes, where there are any
abbrev Where : (Image → Type 0) → Finishing → Type 0
Where P (finished planes) = P planes
Where P (declined number place) = Unit

where_also : {P Q : Image → Type 0} → ((planes : Image) → P planes → Q planes) → (r : Finishing) → Where P r → Where Q r
where_also step (finished planes) p = step planes p
where_also step (declined number place) p = tt

module _ (h : Handed) (m : Jp2) where
  abbrev pub finishing : Finishing
  finishing = finish h m

  abbrev colouring : Finishing
  colouring = colour_checks declined h.settings.edition2 h.file m h.image (fitted h.settings.edition2 h.file m h.image h.records h.samples)

  abbrev pub made : Image
  made = picture h.settings.edition2 h.file m h.image

  coloured_checked : Where (λ planes. Checked h m × (planes ≡ made)) colouring
  unfolding fitted colour_checks
  coloured_checked =
      each (Where (λ planes. Checked h m × (planes ≡ made))) _ (
        (λ _. tt),
        λ named. (
          (λ _. tt),
          λ defined. (
            (λ _. tt),
            λ mapping. (
              (λ _. tt),
              λ lent.
                  each (Where (λ planes. Checked h m × (planes ≡ made))) _ (
                    (λ _. tt),
                    λ room. (
                      (λ _. tt),
                      λ fits. (
                        record {
                          named = lowest-none _ _ named;
                          defined = lowest-none _ _ defined;
                          mapping = lowest-none _ _ mapping;
                          lent = lowest-none _ _ lent;
                          record_room = room;
                          most = fits.0;
                          sample-room = fits.1;
                        },
                        refl,
                      ),
                    ),
                  ),
            ),
          ),
        ),
      )

  checked_coloured : Checked h m → colouring ≡ finished made
  unfolding fitted colour_checks
  checked_coloured c =
      sym (row 4 _ (none-lowest _ _ c.named, (none-lowest _ _ c.defined, (none-lowest _ _ c.mapping, (none-lowest _ _ c.lent, tt))))
      (row 2 _ (c.record_room, ((c.most, c.sample-room), tt)) refl))

module _ (h : Handed) (m : Jp2) where
  abbrev k : Jp2
  k = counted h.settings m

  finish-passed : Where (λ planes. Passed h m × (planes ≡ made h k)) (finishing h m)
  unfolding finish checks
  finish-passed =
      each (Where (λ planes. Passed h m × (planes ≡ made h k))) _ (
        (λ _. tt),
        λ inside.
            where_also (λ planes c. (record { lists = inside.0; file = inside.1; checked = c.0 }, c.1)) (colouring h k) (coloured_checked h k),
      )

  pub passed : (planes : Image) → finishing h m ≡ finished planes → Passed h m × (planes ≡ made h k)
  passed planes e = subst (Where (λ planes. Passed h m × (planes ≡ made h k))) e finish-passed

  pub passes : Passed h m → finishing h m ≡ finished (made h k)
  unfolding finish checks
  passes p = sym (row 1 _ ((p.lists, p.file), tt) (sym (checked_coloured h k p.checked)))

-- a picture with palette, mappings and definitions applied
pub record Applied (h : Handed) (m : Jp2) (planes : Image) : Type 0 where
  pub lists : Says false (outside_lists h.image)
  pub file : Says false (outside_file h.file m)
  pub checked : Checked h m
  pub is_made : planes ≡ made h m

pub counted-all : (s : Settings) (m : Jp2) → s.ignore ≡ 0 → counted s m ≡ m
unfolding counted
counted-all s m e = sym (row 0 _ e refl)

pub applied : (h : Handed) (m : Jp2) (planes : Image) → h.settings.ignore ≡ 0 → finishing h m ≡ finished planes → Applied h m planes
applied h m planes z e =
    let p = passed h m planes e in
    let all = counted-all h.settings m z in
    record { lists = p.0.lists; file = p.0.file; checked = subst (Checked h) all p.0.checked; is_made = p.1 ∙ ap (made h) all }
