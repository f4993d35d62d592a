-- Both walks one box at a time, by the answers of the header: what each answer means is in Box.antt.
use Rattle.std.specs.Prelude.{ℕ, ◌+◌, ◌≤◌, ◌≡◌, List, length, drop}
use Rattle.box_number.specs.Number.{part}
use Rattle.box_number.specs.Table.{◌<?◌, ◌or◌, otherwise, ◌⇒◌∣◌, table}
use Rattle.box_header.specs.Box.{header, child_header, HeaderMeaning, goes_on, ends, refuses, in_jp2h, in_file}
use Rattle.box_header.specs.declared.Jp2BoxHeader.{Jp2BoxHeader}
use Rattle.read_record.specs.declared.Jp2.{Jp2}
use Rattle.read_record.specs.Answer.{Result, accepted, refused, and_then}
use Rattle.read_jp2h.specs.Split.{Box, boxes}
use Rattle.read_jp2h.specs.Child.{child}
use Rattle.read_jp2h.specs.Jp2h.{read_all}
use Rattle.read_rules.specs.File.{Walked, ended, file_refused, then_walk, is_stream, stream, past_end, outer, run, walk}

-- one result where the boxes end, one for a refusal, one for a box to look at
abbrev pub by : {X : Type 0} → HeaderMeaning → X → (ℕ → X) → (Jp2BoxHeader → X) → X
by (goes_on h) end number box = box h
by ends end number box = end
by (refuses n) end number box = number n

-- the box of a header that was found at the first byte of c, which is at a place of the file
abbrev pub box_of : ℕ → List ℕ → Jp2BoxHeader → Box
box_of at c h = record { kind = h.ty; place = at; start = at + h.header_length; content = part c h.header_length h.length }

-- a child: 11 where its length is below its header's or past jp2h; else it is read, then the rest
abbrev pub child_from : ℕ → List ℕ → Jp2 → Jp2BoxHeader → Result
child_from at c k h =
    table
    (h.length <? h.header_length or length c <? h.length ⇒ refused 11 at
    ∣ otherwise (and_then (child (box_of at c h) k) λ m. read_all (boxes (at + h.length) (drop h.length c)) m))

-- the boxes of jp2h from the first byte of c on
abbrev pub children_from : ℕ → List ℕ → Jp2 → Result
children_from at c k = by (in_jp2h (child_header c)) (accepted k) (λ number. refused number at) (child_from at c k)

-- a box of the file: the codestream, whatever its length; 3 where its length is below its header's; a box past the end; else it is read, then the rest
abbrev pub box_from : ℕ → List ℕ → Jp2 → Jp2BoxHeader → Walked
box_from at c k h =
    table
    (is_stream (box_of at c h) ⇒ stream (box_of at c h) k
    ∣ h.length <? h.header_length ⇒ file_refused 3 at
    ∣ length c <? h.length ⇒ past_end (box_of at c h) k
    ∣ otherwise (then_walk (outer (box_of at c h) k) λ m. run (boxes (at + h.length) (drop h.length c)) m))

-- the boxes of the file from the first byte of c on
abbrev pub boxes_from : ℕ → List ℕ → Jp2 → Walked
boxes_from at c k = by (in_file (header c)) (ended k) (λ number. file_refused number at) (box_from at c k)

-- jp2h and the file are read so; and a file of up to 4294967295 bytes is read from its first box on
pub record BoxByBox : Type 0 where
  pub inside : (at : ℕ) (c : List ℕ) (k : Jp2) → read_all (boxes at c) k ≡ children_from at c k
  pub file : (at : ℕ) (c : List ℕ) (k : Jp2) → run (boxes at c) k ≡ boxes_from at c k
  pub start : (f : List ℕ) (j : Jp2) → length f ≤ 4294967295 → walk f j ≡ run (boxes 0 f) j
