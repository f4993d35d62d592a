-- The premises of demand 3 are met by five pictures, computed.
-- Assumes nothing.
use Prim.Native.Nat.{ℕ, ◌*◌}
use mathlib.Core.Path.{◌≡◌, refl, ap}
use mathlib.Core.List.{List, [], ◌∷◌}
use native.Mathlib.Omega.{arith}
use lib.ListN.{length, get_or}
use Rattle.box_number.specs.Number.{number, part}
use Rattle.box_number.specs.Table.{table}
use Rattle.box_kind.specs.Kind.{kind_of}
use Rattle.box_header.specs.Box.{length_of_header, box_length}
use Rattle.read_record.specs.declared.Jp2.{Jp2}
use Rattle.read_record.specs.Record.{span, blank}
use Rattle.read_record.specs.State.{with_bit}
use Rattle.read_record.specs.Answer.{Result, accepted, refused}
use Rattle.read_signature.specs.Signature.{signature}
use Rattle.read_signature.specs.FileType.{file_type}
use Rattle.read_image.specs.Ihdr.{ihdr}
use Rattle.read_image.specs.Bpcc.{bpcc}
use Rattle.read_colour.specs.Colr.{lab, colr}
use Rattle.read_palette.specs.Pclr.{entry_bytes, row_bytes, Cji, pclr}
use Rattle.read_channels.specs.Cmap.{cmap}
use Rattle.read_channels.specs.Cdef.{cdef}
use Rattle.read_jp2h.specs.Split.{split}
use Rattle.read_jp2h.specs.Jp2h.{read_all, lacks_ihdr, jp2h}
use Rattle.read_rules.specs.File.{outer, run, walk, read}
use Rattle.read_rules.specs.Range.{range}
use Rattle.read_rules.specs.Alike.{given, Alike}
use Rattle.read_channels.specs.Definitions.{Def, def, definitions_to, definitions}
use Rattle.picture_rules.specs.Edition.{marked_position, least_counted}
use Rattle.picture_rules.specs.Order.{exchange, define}
use Rattle.picture_rules.specs.Flat.{flat}
use Rattle.picture_rules.specs.Order as order
use Rattle.picture_rules.specs.Image.{Image, size}
use Rattle.box_number.specs.Lowest.{lowest}
use Rattle.picture_rules.specs.Channels.{channels, component_of, type_of}
use Rattle.picture_rules.specs.Samples.{displayed, lookup, value_for, value_of, channel_samples, packed, start_of}
use Rattle.picture_rules.specs.Finish.{counted, expanded, picture, fitted, colour_checks, checks, finish}
use Rattle.picture_rules.specs.Words.{Handed, Accepted}
use Rattle.picture_rules.specs.Met.{otherwise-turned, direct_file, direct_example, direct_planes, paletted_file, paletted, paletted_planes, opacity_file, listed_last, opacity_example, opacity_planes, single, single_planes, shared, shared_planes, Met, RuleMet, DirectMet, PaletteMet, OpacityMet, FlagsReach, SingleMet, SharedMet}
use Rattle.picture_rules.specs.Whole.{pictured}
use Rattle.picture_rules.proofs.Distinct.{DifferPairwise, once-pairwise, swapped, alike-parts}

-- definitions at a place that differ pairwise
module _ (h : Handed) (planes : Image) (m : Jp2) (p : ℕ) (d : Def) (ds : List Def) where
  rule-met :
      Accepted h m planes → h.settings.ignore ≡ 0 → m.lists.cdef ≡ span p (length (d ∷ ds)) → definitions h.file (span p (length (d ∷ ds))) ≡ d ∷ ds → DifferPairwise (d ∷ ds) →
      RuleMet h planes
  rule-met y applied place here differ =
      record {
        kept = m;
        accepted = y;
        defined = record { present = rw place (omega arith); applied = applied };
        clear = rw (place, here) (once-pairwise (d ∷ ds) differ);
      }

-- definitions at a place, and the first two exchanged
module _ (h : Handed) (planes : Image) (g : List ℕ) (m : Jp2) (p : ℕ) (a b : Def) (ds : List Def) where
  abbrev many : ℕ
  many = length (a ∷ b ∷ ds)

  met :
      Accepted h m planes → h.settings.ignore ≡ 0 → m.lists.cdef ≡ span p many → definitions h.file (span p many) ≡ a ∷ b ∷ ds → definitions g (span p many) ≡ b ∷ a ∷ ds →
      DifferPairwise (a ∷ b ∷ ds) → Alike h.file g (range p (6 * many)) → (g ≡ h.file → ⊥) → Met h planes g
  unfolding rule-met
  met y applied place here there differ alike other =
      let r = rule-met h planes m p a (b ∷ ds) y applied place here differ in
      record {
        kept = m;
        accepted = y;
        defined = r.defined;
        clear = r.clear;
        alike = record { reads = y.reading; alike = rw place alike; reordered = rw (place, here, there) (swapped a b ds) };
        other_order = other;
      }

-- the record to which a file is read
abbrev kept_of : Result → Jp2
kept_of (accepted m) = m
kept_of (refused number place) = blank

-- what reading and finishing compute with
computing : ℕ
unfolding table number part kind_of length_of_header box_length with_bit signature file_type ihdr bpcc lab colr entry_bytes row_bytes pclr cmap cdef split read_all lacks_ihdr jp2h outer run walk definitions_to marked_position least_counted exchange define order.run_definitions size lowest channels component_of type_of displayed lookup value_for value_of channel_samples packed start_of Cji counted expanded flat picture fitted colour_checks checks finish
computing = 0

pub direct_met : DirectMet
unfolding computing
direct_met =
    met direct_example direct_planes (direct_file otherwise-turned) (kept_of (given (read direct_example.file))) 72 (def 0 0 3) (def 1 0 2) (def 2 0 1 ∷ [])
    (record { reading = refl; finishing = refl }) refl refl refl refl (omega arith)
    (alike-parts direct_example.file (direct_file otherwise-turned) 72 18 refl refl refl) (λ e. omega (arith, ap (λ x. get_or x 73 0) e))

pub palette_met : PaletteMet
unfolding computing
palette_met =
    met paletted paletted_planes (paletted_file otherwise-turned) (kept_of (given (read paletted.file))) 112 (def 0 0 3) (def 1 0 2) (def 2 0 1 ∷ [])
    (record { reading = refl; finishing = refl }) refl refl refl refl (omega arith)
    (alike-parts paletted.file (paletted_file otherwise-turned) 112 18 refl refl refl) (λ e. omega (arith, ap (λ x. get_or x 113 0) e))

pub opacity_met : OpacityMet
unfolding computing
opacity_met =
    met opacity_example opacity_planes (opacity_file listed_last) (kept_of (given (read opacity_example.file))) 72 (def 0 1 0) (def 1 0 1) []
    (record { reading = refl; finishing = refl }) refl refl refl refl (omega arith)
    (alike-parts opacity_example.file (opacity_file listed_last) 72 12 refl refl refl) (λ e. omega (arith, ap (λ x. get_or x 73 0) e))

pub flags_reach : FlagsReach
unfolding computing pictured
flags_reach = record { second = refl; first = refl; ignored = (refl, refl) }

pub single_met : SingleMet
unfolding computing
single_met = rule-met single single_planes (kept_of (given (read single.file))) 72 (def 1 0 2) [] (record { reading = refl; finishing = refl }) refl refl refl (omega arith)

pub shared_met : SharedMet
unfolding computing
shared_met =
    rule-met shared shared_planes (kept_of (given (read shared.file))) 72
    (def 6 0 1) (def 1 1 1 ∷ def 2 1 1 ∷ def 3 0 0 ∷ def 4 0 0 ∷ def 5 0 65535 ∷ def 0 0 65535 ∷ [])
    (record { reading = refl; finishing = refl }) refl refl refl
    (omega arith, (omega arith, (omega arith, (omega arith, (omega arith, (omega arith, omega arith))))))
