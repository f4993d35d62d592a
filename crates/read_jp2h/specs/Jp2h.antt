-- I.5.3, JP2 Header box: a superbox. Its boxes are read in the file's order. Differences 12 and 18: they may come in any order, only ihdr has to be there, and a further jp2h is read too.
use Rattle.std.specs.Prelude.{ℕ, ◌+◌, Bool, true, not, ◌&&◌, List, length}
use Rattle.box_number.specs.Table.{◌=?◌, ◌<?◌, flag, otherwise, ◌⇒◌∣◌, holds, table}
use Rattle.box_kind.specs.Kind.{◌is◌}
use Rattle.box_kind.specs.declared.Jp2BoxType.TheVariants.{IHDR}
use Rattle.box_header.specs.Box.{largest}
use Rattle.read_record.specs.declared.Jp2.{Jp2}
use Rattle.read_record.specs.Record.{with_state, with_imgstate, with_has_jp2h}
use Rattle.read_record.specs.State.{file_type_bit, with_bit}
use Rattle.read_record.specs.Answer.{Result, accepted, refused, and_then}
use Rattle.read_jp2h.specs.Split.{Boxes, no_bytes, cut, high_word, to_end, short, past, ◌▸◌, boxes}
use Rattle.read_jp2h.specs.Child.{child}

-- the boxes in order, up to the first that is refused: a box whose header is no header of a child (10), or whose length is below its header's or past jp2h (11)
unfoldable pub read_all : Boxes → Jp2 → Result
read_all no_bytes k = accepted k
read_all (cut place) k = refused 10 place
read_all (high_word place) k = refused 10 place
read_all (to_end b) k = refused 10 b.place
read_all (short b) k = refused 11 b.place
read_all (past b) k = refused 11 b.place
read_all (b ▸ bs) k = and_then (child b k) (λ m. read_all bs m)

-- none of the boxes is an ihdr
unfoldable pub lacks_ihdr : Boxes → Bool
lacks_ihdr no_bytes = true
lacks_ihdr (cut place) = true
lacks_ihdr (high_word place) = true
lacks_ihdr (to_end b) = true
lacks_ihdr (short b) = true
lacks_ihdr (past b) = true
lacks_ihdr (b ▸ bs) = not (holds (b.kind is IHDR)) && lacks_ihdr bs

-- the header bit, and has_jp2h
abbrev pub with_header_bit : Jp2 → Jp2
with_header_bit k = with_has_jp2h (with_state (with_bit 4 k.status.state) k)

-- the box at a place of the file, with content c that begins at start
unfoldable pub jp2h : ℕ → ℕ → List ℕ → Jp2 → Result
jp2h place start c j =
    let bs = boxes start c in
    table
    (file_type_bit j =? 0 ⇒ refused 9 place
    ∣ otherwise (and_then (read_all bs (with_imgstate 0 j)) λ k.
    table
    (flag (lacks_ihdr bs) ⇒ refused 12 place
    ∣ otherwise (accepted (with_header_bit k)))))

-- as a reader of its own: a content that reaches past the last place that a file can have is past the file
unfoldable pub jp2h_alone : ℕ → ℕ → List ℕ → Jp2 → Result
jp2h_alone place start c j = table (largest <? start + length c ⇒ refused 4 place ∣ otherwise (jp2h place start c j))
