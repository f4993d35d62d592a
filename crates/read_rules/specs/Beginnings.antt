-- What every beginning of a file answers, from the boxes of the whole file.
use Rattle.std.specs.Prelude.{ℕ, ◌+◌, ◌-◌, ◌≤◌, ◌≡◌, List, length, take}
use Rattle.box_number.specs.Table.{◌<?◌, otherwise, ◌⇒◌∣◌, table}
use Rattle.box_header.specs.Box.{largest}
use Rattle.read_record.specs.declared.Jp2.{Jp2}
use Rattle.read_jp2h.specs.Split.{Box, Boxes, no_bytes, cut, high_word, to_end, short, past, ◌▸◌, boxes}
use Rattle.read_rules.specs.File.{Walked, ended, then_walk, is_stream, stream, past_end, outer, whole, run, walk}

-- the place behind a box's last byte
abbrev pub end_of : Box → ℕ
end_of b = b.start + length b.content

-- a box of length 0 takes all bytes that are left, so that of n bytes it takes those behind its header
abbrev pub shortened : ℕ → Box → Box
shortened n b = record { kind = b.kind; place = b.place; start = b.start; content = take (n - b.start) b.content }

-- The first n bytes, box by box. Where a box's header is not there, the file has ended. The codestream is answered as in the whole file. A box whose end is not there reaches past the end. Otherwise it is read, and the next box comes.
unfoldable pub run_to : ℕ → Boxes → Jp2 → Walked
run_to n no_bytes k = ended k
run_to n (cut place) k = ended k
run_to n (high_word place) k = ended k
run_to n (to_end b) k = table (n <? b.start ⇒ ended k ∣ otherwise (whole (shortened n b) k ended))
run_to n (short b) k = table (n <? b.start ⇒ ended k ∣ otherwise (run (short b) k))
run_to n (past b) k = table (n <? b.start ⇒ ended k ∣ otherwise (run (past b) k))
run_to n (b ▸ bs) k =
    table
    (n <? b.start ⇒ ended k
    ∣ is_stream b ⇒ stream b k
    ∣ n <? end_of b ⇒ past_end b k
    ∣ otherwise (then_walk (outer b k) λ m. run_to n bs m))

-- every beginning of every file that is not too long, whatever record it is read from
abbrev pub Beginnings : Type 0
Beginnings = (f : List ℕ) (j : Jp2) (n : ℕ) → length f ≤ largest → n ≤ length f → walk (take n f) j ≡ run_to n (boxes 0 f) j
