-- Small files that reach their codestream, cut on both sides of every bound, and the whole reading of each beginning. Computed from the definitions, as Records.antt.
use Rattle.std.specs.Prelude.{ℕ, ◌≡◌, refl, List, [], ◌∷◌, ◌++◌, take}
use Rattle.box_number.specs.Number.{number, part}
use Rattle.box_number.specs.Table.{table}
use Rattle.box_kind.specs.Kind.{kind_of}
use Rattle.box_header.specs.Box.{length_of_header, box_length}
use Rattle.read_record.specs.declared.Jp2.{Jp2}
use Rattle.read_record.specs.Record.{jp2, status}
use Rattle.read_record.specs.State.{with_bit}
use Rattle.read_signature.specs.Signature.{signature}
use Rattle.read_signature.specs.FileType.{file_type}
use Rattle.read_image.specs.Ihdr.{ihdr}
use Rattle.read_colour.specs.Colr.{lab, colr}
use Rattle.read_jp2h.specs.Split.{Box, Boxes, no_bytes, cut, high_word, to_end, short, past, ◌▸◌, split, boxes}
use Rattle.read_jp2h.specs.Jp2h.{read_all, lacks_ihdr, jp2h}
use Rattle.read_rules.specs.File.{codestream, ended, file_refused, outer, run, walk, after}
use Rattle.read_rules.specs.Files.{four, box_by_number}
use Rattle.read_rules.specs.Records.{start, jp2h_box, jp2c_box, one, grey_box, extended_header, no_record, no_image, no_colour, typed, no_lists, jp2_type, small, grey, unlisted, full_with, refuses, Cases, end, ◌from◌gives◌with◌∣◌, results, expected}
use Rattle.read_rules.specs.CutTransfers.{before, first_cut, length_zero}

-- signature at 0, file type at 12, jp2h at 32, a box that is skipped at 77, the codestream box at 89; its offset is 97
abbrev pub plain_file : List ℕ
plain_file = start ++ jp2h_box (one ++ grey_box) ++ box_by_number 0x66726565 (1 ∷ 2 ∷ 3 ∷ 4 ∷ []) ++ jp2c_box

-- the record after its jp2h, with the state that the file has then
abbrev pub headed : ℕ → Jp2
headed state = jp2 small grey jp2_type unlisted (status state 0 1 1)

-- jp2h at 32; at 62 a box that is skipped, with a header of 16 bytes, and two bytes of content; at 80 the codestream box with such a header
abbrev pub extended_file : List ℕ
extended_file = start ++ jp2h_box one ++ extended_header 0x66726565 0 18 ++ 1 ∷ 2 ∷ [] ++ extended_header 0x6a703263 0 16

-- a colr at 32, before jp2h at 47; the codestream box at 77
abbrev pub early_file : List ℕ
early_file = start ++ grey_box ++ jp2h_box one ++ jp2c_box

-- jp2h at 32, a colr behind it at 62; the codestream box at 77, of length 0
abbrev pub last_file : List ℕ
last_file = start ++ jp2h_box one ++ grey_box ++ four 0 ++ four 0x6a703263 ++ 1 ∷ 2 ∷ 3 ∷ []

abbrev pub cut_files : Cases
cut_files =
    -- no bytes; a header without its last byte, and with it; a box without its last byte, and with it
    take 0 plain_file from no_record gives ended with no_record ∣
    take 7 plain_file from no_record gives ended with no_record ∣
    take 8 plain_file from no_record gives refuses 4 0 with no_record ∣
    take 11 plain_file from no_record gives refuses 4 0 with no_record ∣
    take 12 plain_file from no_record gives ended with jp2 no_image no_colour (typed 0 0) no_lists (status 1 0 0 0) ∣
    take 19 plain_file from no_record gives ended with jp2 no_image no_colour (typed 0 0) no_lists (status 1 0 0 0) ∣
    take 20 plain_file from no_record gives refuses 4 12 with no_record ∣
    take 28 plain_file from no_record gives refuses 4 12 with no_record ∣
    take 31 plain_file from no_record gives refuses 4 12 with no_record ∣
    take 32 plain_file from no_record gives ended with jp2 no_image no_colour jp2_type unlisted (status 3 0 0 0) ∣
    take 39 plain_file from no_record gives ended with jp2 no_image no_colour jp2_type unlisted (status 3 0 0 0) ∣
    -- jp2h: empty, inside a child's header, inside a child, between two children, inside the second, without its last byte; whole
    take 40 plain_file from no_record gives refuses 4 32 with no_record ∣
    take 44 plain_file from no_record gives refuses 4 32 with no_record ∣
    take 61 plain_file from no_record gives refuses 4 32 with no_record ∣
    take 62 plain_file from no_record gives refuses 4 32 with no_record ∣
    take 72 plain_file from no_record gives refuses 4 32 with no_record ∣
    take 76 plain_file from no_record gives refuses 4 32 with no_record ∣
    take 77 plain_file from no_record gives ended with headed 7 ∣
    -- a box that is skipped: inside its header, behind it, without its last byte; whole
    take 84 plain_file from no_record gives ended with headed 7 ∣
    take 85 plain_file from no_record gives ended with headed 2147483647 ∣
    take 88 plain_file from no_record gives ended with headed 2147483647 ∣
    take 89 plain_file from no_record gives ended with headed 2147483647 ∣
    -- the codestream's header without its last byte, and with it
    take 96 plain_file from no_record gives ended with headed 2147483647 ∣
    take 97 plain_file from no_record gives codestream 97 with headed 2147483647 ∣
    -- headers of 16 bytes: with 7, 8, 15 and 16 of them
    take 69 extended_file from no_record gives ended with jp2 small no_colour jp2_type unlisted (status 7 0 1 1) ∣
    take 70 extended_file from no_record gives ended with jp2 small no_colour jp2_type unlisted (status 7 0 1 1) ∣
    take 77 extended_file from no_record gives ended with jp2 small no_colour jp2_type unlisted (status 7 0 1 1) ∣
    take 78 extended_file from no_record gives ended with jp2 small no_colour jp2_type unlisted (status 2147483647 0 1 1) ∣
    take 79 extended_file from no_record gives ended with jp2 small no_colour jp2_type unlisted (status 2147483647 0 1 1) ∣
    take 88 extended_file from no_record gives ended with jp2 small no_colour jp2_type unlisted (status 2147483647 0 1 1) ∣
    take 95 extended_file from no_record gives ended with jp2 small no_colour jp2_type unlisted (status 2147483647 0 1 1) ∣
    take 96 extended_file from no_record gives codestream 96 with jp2 small no_colour jp2_type unlisted (status 2147483647 0 1 1) ∣
    -- a box of jp2h before it, which is skipped where it is whole, and refused where it is cut
    take 39 early_file from no_record gives ended with jp2 no_image no_colour jp2_type unlisted (status 3 0 0 0) ∣
    take 40 early_file from no_record gives refuses 4 32 with no_record ∣
    take 46 early_file from no_record gives refuses 4 32 with no_record ∣
    take 47 early_file from no_record gives ended with jp2 no_image no_colour jp2_type unlisted (status 2147483647 0 0 0) ∣
    take 76 early_file from no_record gives refuses 4 47 with no_record ∣
    take 85 early_file from no_record gives codestream 85 with jp2 small no_colour jp2_type unlisted (status 2147483647 0 1 1) ∣
    -- a box of jp2h behind it, and a codestream box of length 0
    take 76 last_file from no_record gives refuses 4 62 with no_record ∣
    take 77 last_file from no_record gives ended with headed 7 ∣
    take 84 last_file from no_record gives ended with headed 7 ∣
    take 85 last_file from no_record gives codestream 85 with headed 15 ∣
    take 87 last_file from no_record gives codestream 85 with headed 15 ∣
    take 88 last_file from no_record gives codestream 85 with headed 15 ∣
    -- from another record
    take 8 (box_by_number 0x66726565 (1 ∷ []) ++ jp2c_box) from full_with (status 2147483655 5 6 7) gives ended with full_with (status 4294967295 5 6 7) ∣
    take 7 (box_by_number 0x66726565 (1 ∷ []) ++ jp2c_box) from full_with (status 2147483655 5 6 7) gives ended with full_with (status 2147483655 5 6 7) ∣
    end

pub cut_files_lem : results cut_files ≡ expected cut_files
unfolding table number part kind_of length_of_header box_length with_bit signature file_type ihdr lab colr split read_all lacks_ihdr jp2h outer run walk after
cut_files_lem = refl

-- the places of boxes
abbrev pub places_of : Boxes → List ℕ
places_of no_bytes = []
places_of (cut place) = []
places_of (high_word place) = []
places_of (to_end b) = b.place ∷ []
places_of (short b) = b.place ∷ []
places_of (past b) = b.place ∷ []
places_of (b ▸ bs) = b.place ∷ places_of bs

abbrev pub places : List Box → List ℕ
places [] = []
places (b ∷ bs) = b.place ∷ places bs

-- which boxes lie wholly before a cut, and which is the first that does not: on both sides of a box's last byte, and of that of a box of length 0
pub boxes-before :
    (places_of (before 0 (boxes 0 plain_file)) ≡ [])
    × (places_of (before 76 (boxes 0 plain_file)) ≡ 0 ∷ 12 ∷ [])
    × (places_of (before 77 (boxes 0 plain_file)) ≡ 0 ∷ 12 ∷ 32 ∷ [])
    × (places_of (before 88 (boxes 0 plain_file)) ≡ 0 ∷ 12 ∷ 32 ∷ [])
    × (places_of (before 89 (boxes 0 plain_file)) ≡ 0 ∷ 12 ∷ 32 ∷ 77 ∷ [])
    × (places_of (before 97 (boxes 0 plain_file)) ≡ 0 ∷ 12 ∷ 32 ∷ 77 ∷ 89 ∷ [])
    × (places_of (before 87 (boxes 0 last_file)) ≡ 0 ∷ 12 ∷ 32 ∷ 62 ∷ [])
    × (places_of (before 88 (boxes 0 last_file)) ≡ 0 ∷ 12 ∷ 32 ∷ 62 ∷ 77 ∷ [])
unfolding table number part kind_of length_of_header box_length split before
boxes-before = (refl, refl, refl, refl, refl, refl, refl, refl)

pub first-cuts :
    (places (first_cut 0 (boxes 0 plain_file)) ≡ 0 ∷ [])
    × (places (first_cut 76 (boxes 0 plain_file)) ≡ 32 ∷ [])
    × (places (first_cut 77 (boxes 0 plain_file)) ≡ 77 ∷ [])
    × (places (first_cut 88 (boxes 0 plain_file)) ≡ 77 ∷ [])
    × (places (first_cut 89 (boxes 0 plain_file)) ≡ 89 ∷ [])
    × (places (first_cut 97 (boxes 0 plain_file)) ≡ [])
    × (places (first_cut 87 (boxes 0 last_file)) ≡ 77 ∷ [])
    × (places (first_cut 88 (boxes 0 last_file)) ≡ [])
unfolding table number part kind_of length_of_header box_length split first_cut
first-cuts = (refl, refl, refl, refl, refl, refl, refl, refl)

pub length-zeros : (places (length_zero (boxes 0 last_file)) ≡ 77 ∷ []) × (places (length_zero (boxes 0 plain_file)) ≡ [])
unfolding table number part kind_of length_of_header box_length split
length-zeros = (refl, refl)

-- what `CutTransfers` asks for is met, and its three answers differ: the whole file reaches its codestream; cut inside the box that is skipped it has ended, with other state bits than the boxes before the cut give; cut between two boxes, with theirs; and cut inside jp2h it is refused
pub record CutTransfersMet : Type 0 where
  pub reaches : walk plain_file no_record ≡ codestream 97 (headed 2147483647)
  pub skipped : (walk (take 86 plain_file) no_record ≡ ended (headed 2147483647)) × (run (before 86 (boxes 0 plain_file)) no_record ≡ ended (headed 7))
  pub between : (walk (take 77 plain_file) no_record ≡ ended (headed 7)) × (run (before 77 (boxes 0 plain_file)) no_record ≡ ended (headed 7))
  pub inside : (walk (take 70 plain_file) no_record ≡ file_refused 4 32) × (places (first_cut 70 (boxes 0 plain_file)) ≡ 32 ∷ [])

pub cut_transfers_met : CutTransfersMet
unfolding table number part kind_of length_of_header box_length with_bit signature file_type ihdr lab colr split read_all lacks_ihdr jp2h outer run walk before first_cut
cut_transfers_met = record { reaches = refl; skipped = (refl, refl); between = (refl, refl); inside = (refl, refl) }
