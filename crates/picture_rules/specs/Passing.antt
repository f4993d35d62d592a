-- Document 01's table on finishing, in numbers and for all inputs: which pictures are finished, and what the index or length beside each number says.
use Rattle.std.specs.Prelude.{ℕ, ◌+◌, ◌-◌, ◌*◌, ◌≤◌, ◌<◌, ◌≡◌, List, length}
use Rattle.read_record.specs.declared.Jp2.{Jp2}
use Rattle.read_palette.specs.Pclr.{row_size}
use Rattle.read_channels.specs.Cmap.{CMP, MTYP, PCOL}
use Rattle.read_channels.specs.Cdef.{Cn, Asoc}
use Rattle.picture_rules.specs.Image.{Image, width, height, first}
use Rattle.picture_rules.specs.Handed.{Handed}
use Rattle.picture_rules.specs.Channels.{channels}
use Rattle.picture_rules.specs.Samples.{start_of}
use Rattle.picture_rules.specs.Finish.{finished, declined, counted, finish}

-- 29 does not apply: records, planes and lists lie where the picture and the record say
pub record Inside (f : List ℕ) (m : Jp2) (i : Image) : Type 0 where
  pub few-records : i.count ≤ 16384
  pub records : 13 * i.count ≤ length i.components
  pub few-samples : length i.samples ≤ 4294967294
  pub planes : (c : ℕ) → c < i.count → (first i c ≡ 4294967295 → ⊥) → first i c + height i c * width i c ≤ length i.samples
  pub palette :
      let p = m.lists.pclr in
      (p.columns ≡ 0 → ⊥) → (p.entries ≡ 0 → ⊥) × ((p.entries ≤ 1024) × ((p.columns ≤ 255) × (p.place + (p.columns + p.entries * row_size f p) ≤ length f)))
  pub mappings :
      let l = m.lists.cmap in
      (l.count ≡ 0 → ⊥) → (l.count ≡ m.lists.pclr.columns) × (l.place + 4 * l.count ≤ length f)
  pub definitions :
      let l = m.lists.cdef in
      (l.count ≡ 0 → ⊥) → (l.count ≤ 65535) × (l.place + 6 * l.count ≤ length f)

-- how many channels the picture has, and how many samples they have in all
abbrev pub channel_count : Handed → Jp2 → ℕ
channel_count h m = channels m h.image.count

abbrev pub needed : Handed → Jp2 → ℕ
needed h m = start_of h.file m h.image (channel_count h m)

-- 25 passes definition j: its channel and, where asoc is neither 0 nor 65535, asoc - 1 are below the channels
abbrev pub Named : Handed → Jp2 → ℕ → Type 0
Named h m j =
    let l = m.lists.cdef in
    (Cn h.file l j < channel_count h m) × ((Asoc h.file l j ≡ 0 → ⊥) → (Asoc h.file l j ≡ 65535 → ⊥) → Asoc h.file l j - 1 < channel_count h m)

-- 26 passes channel c: some definition names it, where there are definitions; in edition 1 channel 0 needs none
abbrev pub HasDefinition : Handed → Jp2 → ℕ → Type 0
HasDefinition h m c =
    let l = m.lists.cdef in
    (l.count ≡ 0 → ⊥) → (h.settings.edition2 ≡ 0 → 1 ≤ c) → (j : ℕ) × (j < l.count) × (Cn h.file l j ≡ c)

-- 27 passes mapping c: its component exists, and where type and column are not 0 and 0 they are 1 and c
abbrev pub MappedRight : Handed → Jp2 → ℕ → Type 0
MappedRight h m c =
    let l = m.lists.cmap in
    (CMP h.file l c < h.image.count) × ((MTYP h.file l c ≡ 0 → PCOL h.file l c ≡ 0 → ⊥) → (MTYP h.file l c ≡ 1) × (PCOL h.file l c ≡ c))

-- 28 passes mapping c: its component has samples
abbrev pub HasSamples : Handed → Jp2 → ℕ → Type 0
HasSamples h m c = first h.image (CMP h.file m.lists.cmap c) ≡ 4294967295 → ⊥

-- 25 to 28 and 30 do not apply
pub record Passing (h : Handed) (m : Jp2) : Type 0 where
  pub named : (j : ℕ) → j < m.lists.cdef.count → Named h m j
  pub defined : (c : ℕ) → c < channel_count h m → HasDefinition h m c
  pub mapped : (c : ℕ) → c < m.lists.cmap.count → MappedRight h m c
  pub lent : (c : ℕ) → c < m.lists.cmap.count → HasSamples h m c
  pub record_room : 13 * channel_count h m ≤ h.records
  pub few-samples : needed h m ≤ 4294967294
  pub sample-room : needed h m ≤ h.samples

pub record FinishedExactly : Type 0 where
  -- a picture is finished where no number applies, and only there; 29 looks at the whole record, the others at what the settings leave of it
  pub where-passing : (h : Handed) (m : Jp2) → Inside h.file m h.image → Passing h (counted h.settings m) → (planes : Image) × (finish h m ≡ finished planes)
  pub only_where : (h : Handed) (m : Jp2) (planes : Image) → finish h m ≡ finished planes → Inside h.file m h.image × Passing h (counted h.settings m)
  -- 29 is given where something is outside, whatever else is wrong, and only there
  pub outside_29 : (h : Handed) (m : Jp2) → (Inside h.file m h.image → ⊥) → finish h m ≡ declined 29 0
  pub only_29 : (h : Handed) (m : Jp2) (place : ℕ) → finish h m ≡ declined 29 place → Inside h.file m h.image → ⊥

-- of n indices, j is the lowest that has not a property
pub record LowestWithout (P : ℕ → Type 0) (n j : ℕ) : Type 0 where
  pub below : j < n
  pub lacks : P j → ⊥
  pub before : (i : ℕ) → i < j → P i

-- a destination is too short: the list of records, of 13 numbers a channel, or with room there that of samples, which may need too many
pub record RoomFor (h : Handed) (m : Jp2) (length : ℕ) : Type 0 where
  pub records : h.records < 13 * channel_count h m → length ≡ 13 * channel_count h m
  pub samples : 13 * channel_count h m ≤ h.records → (length ≡ needed h m) × (needed h m ≤ 4294967294 → h.samples < needed h m)

-- what the number beside 25 to 28 and 30 says
pub record RefusedExactly : Type 0 where
  pub index_25 : (h : Handed) (m : Jp2) (j : ℕ) → finish h m ≡ declined 25 j → let k = counted h.settings m in LowestWithout (Named h k) k.lists.cdef.count j
  pub index_26 : (h : Handed) (m : Jp2) (c : ℕ) → finish h m ≡ declined 26 c → let k = counted h.settings m in LowestWithout (HasDefinition h k) (channel_count h k) c
  pub index_27 : (h : Handed) (m : Jp2) (c : ℕ) → finish h m ≡ declined 27 c → let k = counted h.settings m in LowestWithout (MappedRight h k) k.lists.cmap.count c
  pub index_28 : (h : Handed) (m : Jp2) (c : ℕ) → finish h m ≡ declined 28 c → let k = counted h.settings m in LowestWithout (HasSamples h k) k.lists.cmap.count c
  pub length_30 : (h : Handed) (m : Jp2) (length : ℕ) → finish h m ≡ declined 30 length → RoomFor h (counted h.settings m) length
