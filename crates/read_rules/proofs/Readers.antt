-- Each reader, for what it does to the record. R is any reading that depends on the content only through that reader.
-- Assumes nothing.
use Prim.Native.Nat.{ℕ, ◌≤◌, ◌<◌}
use mathlib.Core.Path.{◌≡◌, refl}
use mathlib.Core.List.{List}
use native.Mathlib.Omega.{arith}
use lib.ListN.{length}
use Rattle.box_number.proofs.Rows.{each}
use Rattle.box_kind.specs.declared.Jp2BoxType.{Jp2BoxType}
use Rattle.box_kind.specs.declared.Jp2BoxType.TheVariants.{None, JPIP, JP, FTYP, JP2H, IHDR, COLR, JP2C, URL, PCLR, CMAP, CDEF, DTBL, BPCC, JP2, RES, JP2I, XML, UUID, UINF, Unknown}
use Rattle.read_record.specs.declared.Lab.{Lab}
use Rattle.read_record.specs.declared.Jp2.{Jp2}
use Rattle.read_record.specs.Answer.{Result, refused}
use Rattle.read_signature.specs.Signature.{signature}
use Rattle.read_signature.specs.FileType.{file_type}
use Rattle.read_image.specs.Ihdr.{image_fields, ihdr}
use Rattle.read_image.specs.Bpcc.{bpcc}
use Rattle.read_colour.specs.Colr.{lab, colr}
use Rattle.read_palette.specs.Pclr.{pclr}
use Rattle.read_channels.specs.Cmap.{cmap}
use Rattle.read_channels.specs.Cdef.{N, cdef}
use Rattle.read_jp2h.specs.Child.{skipped, reader}
use Rattle.read_rules.specs.File.{ended, then_walk}
use Rattle.read_rules.proofs.Sames.{number_same}
use Rattle.read_rules.proofs.Parts.{Lies, alike-first}
use Rattle.read_rules.proofs.Changes.{Change, marked, typed, sized, deep, tinted, cielab, profiled, indexed, mapped, defined, Law}
use Rattle.read_rules.proofs.Local.{kept, set, Through, Moves, Reads, refuses}

lab-count : (c : List ℕ) → ((lab c).count ≡ 0 → ⊥) → ((lab c).count ≡ 8 → ⊥) → (lab c).count ≡ 9
unfolding lab
lab-count c = each (λ (l : Lab). (l.count ≡ 0 → ⊥) → (l.count ≡ 8 → ⊥) → l.count ≡ 9) _ ((λ _ x y. absurd (y refl)), λ _. ((λ _ x y. refl), λ _ x y. refl))

-- cdef looks at the content's length and N
cdef-same : (place start : ℕ) (c e : List ℕ) (j : Jp2) → length e ≡ length c → N e ≡ N c → cdef place start e j ≡ cdef place start c j
unfolding cdef
cdef-same place start c e j l n = rw (l, n)

-- a content c that begins at start, and the record j
module _ {f : List ℕ} {P : ℕ → Jp2 → Type 0} (law : Law f P) {X : Type 0} (R : List ℕ → X) (start : ℕ) (c : List ℕ) (j : Jp2) (lies : Lies f start c) where
  -- the definition list stays
  pub moves : {m : Jp2} → Change start c j m → m.lists.cdef ≡ j.lists.cdef → Moves P R start c j m
  moves {m} h e = record { list = kept e; keeps = law.change start c j m lies h }

  pub stays : Moves P R start c j j
  stays = moves (marked j.status (λ h. h)) refl

-- the same in a box that starts at a place before
module _ {f : List ℕ} {P : ℕ → Jp2 → Type 0} (law : Law f P) {X : Type 0} (R : List ℕ → X) (place start : ℕ) (c : List ℕ) (j : Jp2) (lies : Lies f start c) (first : place < start) where
  abbrev Answers : Result → Type 0
  Answers r = Reads P R start c j (then_walk r ended)

  no : {number : ℕ} → 1 ≤ number → number ≤ 24 → Answers (refused number place)
  no a b = refuses a b (omega arith)

  with : {m : Jp2} → Change start c j m → m.lists.cdef ≡ j.lists.cdef → Moves P R start c j m
  with = moves law R start c j lies

  on : Moves P R start c j j
  on = stays law R start c j lies

  pub signature-reads : Answers (signature place start c j)
  unfolding signature
  signature-reads = each Answers _ ((λ _. no (omega arith) (omega arith)), λ _. with (marked _ (λ h. h)) refl)

  pub type_reads : Answers (file_type place start c j)
  unfolding file_type
  type_reads = each Answers _ ((λ _. no (omega arith) (omega arith)), λ h. with (typed _ h.1.0) refl)

  ihdr-reads : Answers (ihdr place start c j)
  unfolding ihdr
  ihdr-reads = each Answers _ ((λ _. on), λ _. ((λ _. no (omega arith) (omega arith)), λ _. ((λ _. no (omega arith) (omega arith)), λ _. ((λ _. no (omega arith) (omega arith)), λ h. with (sized (image_fields c) h) refl))))

  bpcc-reads : Answers (bpcc place start c j)
  unfolding bpcc
  bpcc-reads = each Answers _ ((λ _. no (omega arith) (omega arith)), λ _. with deep refl)

  colr-reads : Answers (colr place start c j)
  unfolding colr
  colr-reads =
      each Answers _ (
        (λ _. no (omega arith) (omega arith)),
        λ three. (
          (λ _. on),
          λ _. (
            (λ _. no (omega arith) (omega arith)),
            λ _. (
              (λ _. with (cielab _ (λ _. (omega arith, lab-count c))) refl),
              λ _. (
                (λ _. with (tinted _ (λ t. (omega arith, t.1))) refl),
                λ _.
                    ((λ _. with (profiled _ (λ _. (omega arith, λ x y. absurd (x refl))) three) refl), λ _. with (tinted _ (λ t. t)) refl),
              ),
            ),
          ),
        ),
      )

  pclr-reads : Answers (pclr place start c j)
  unfolding pclr
  pclr-reads =
      each Answers _
      ((λ _. no (omega arith) (omega arith)), λ none. ((λ _. no (omega arith) (omega arith)), λ _. ((λ _. no (omega arith) (omega arith)), λ h. ((λ _. no (omega arith) (omega arith)), λ room. with (indexed none (omega (arith, h.0)) h.1.0 (omega (arith, h.1.1)) room) refl))))

  cmap-reads : Answers (cmap place start c j)
  unfolding cmap
  cmap-reads = each Answers _ ((λ _. no (omega arith) (omega arith)), λ some. ((λ _. no (omega arith) (omega arith)), λ _. ((λ _. no (omega arith) (omega arith)), λ room. with (mapped some room) refl)))

  cdef_sets : Through R N c → Answers (cdef place start c j)
  unfolding cdef
  cdef_sets through =
      each Answers _ (
        (λ _. no (omega arith) (omega arith)),
        λ none. (
          (λ _. no (omega arith) (omega arith)),
          λ _. (
            (λ _. no (omega arith) (omega arith)),
            λ some. (
              (λ _. no (omega arith) (omega arith)),
              λ room.
                  record {
                    list = set none (omega arith) (omega arith) (omega arith) (λ e a. through e a.long (number_same 2 (alike-first a 2 (omega arith) (omega arith))));
                    keeps = law.change start c j _ lies (defined none (omega arith) room);
                  },
            ),
          ),
        ),
      )

  skipped-reads : Answers (skipped place start c j)
  skipped-reads = with (marked _ (λ h. h)) refl

  pub reader-reads : (k : Jp2BoxType) → Through R (λ e. reader k place start e j) c → Answers (reader k place start c j)
  reader-reads IHDR through = ihdr-reads
  reader-reads BPCC through = bpcc-reads
  reader-reads COLR through = colr-reads
  reader-reads PCLR through = pclr-reads
  reader-reads CMAP through = cmap-reads
  reader-reads CDEF through = cdef_sets (λ e l n. through e l (cdef-same place start c e j l n))
  reader-reads None through = skipped-reads
  reader-reads JPIP through = skipped-reads
  reader-reads JP through = skipped-reads
  reader-reads FTYP through = skipped-reads
  reader-reads JP2H through = skipped-reads
  reader-reads JP2C through = skipped-reads
  reader-reads URL through = skipped-reads
  reader-reads DTBL through = skipped-reads
  reader-reads JP2 through = skipped-reads
  reader-reads RES through = skipped-reads
  reader-reads JP2I through = skipped-reads
  reader-reads XML through = skipped-reads
  reader-reads UUID through = skipped-reads
  reader-reads UINF through = skipped-reads
  reader-reads (Unknown n) through = skipped-reads
