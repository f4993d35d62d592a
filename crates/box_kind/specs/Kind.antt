-- I.4, Table I.2: the types of box, by their four characters. Differences 1 and 2: UUID has the crate's number, 0x75756994, and not the standard's 0x75756964;
-- 'jpip', 'dtbl' and 'jp2 ' are kinds of the crate that the table does not have.
use Rattle.std.specs.Prelude.{ℕ, ◌≡◌}
use Rattle.box_number.specs.Table.{Test, ◌=?◌, ◌or◌, otherwise, ◌⇒◌∣◌, table}
use Rattle.box_kind.specs.declared.Jp2BoxType.{Jp2BoxType}
use Rattle.box_kind.specs.declared.Jp2BoxType.TheVariants.{None, JPIP, JP, FTYP, JP2H, IHDR, COLR, JP2C, URL, PCLR, CMAP, CDEF, DTBL, BPCC, JP2, RES, JP2I, XML, UUID, UINF, Unknown}

infix 40 ◌is◌
unfoldable pub kind_of : ℕ → Jp2BoxType
kind_of n =
    table
    (n =? 0x6a706970 ⇒ JPIP
    ∣ n =? 0x6a502020 ⇒ JP
    ∣ n =? 0x66747970 ⇒ FTYP
    ∣ n =? 0x6a703268 ⇒ JP2H
    ∣ n =? 0x69686472 ⇒ IHDR
    ∣ n =? 0x636f6c72 ⇒ COLR
    ∣ n =? 0x6a703263 ⇒ JP2C
    ∣ n =? 0x75726c20 ⇒ URL
    ∣ n =? 0x70636c72 ⇒ PCLR
    ∣ n =? 0x636d6170 ⇒ CMAP
    ∣ n =? 0x63646566 ⇒ CDEF
    ∣ n =? 0x6474626c ⇒ DTBL
    ∣ n =? 0x62706363 ⇒ BPCC
    ∣ n =? 0x6a703220 ⇒ JP2
    ∣ n =? 0x72657320 ⇒ RES
    ∣ n =? 0x6a703269 ⇒ JP2I
    ∣ n =? 0x786d6c20 ⇒ XML
    ∣ n =? 0x75756994 ⇒ UUID
    ∣ n =? 0x75696e66 ⇒ UINF
    ∣ otherwise (Unknown n))

-- the number of a kind; None, which no file has, is 0
abbrev pub number_of : Jp2BoxType → ℕ
number_of None = 0
number_of JPIP = 0x6a706970
number_of JP = 0x6a502020
number_of FTYP = 0x66747970
number_of JP2H = 0x6a703268
number_of IHDR = 0x69686472
number_of COLR = 0x636f6c72
number_of JP2C = 0x6a703263
number_of URL = 0x75726c20
number_of PCLR = 0x70636c72
number_of CMAP = 0x636d6170
number_of CDEF = 0x63646566
number_of DTBL = 0x6474626c
number_of BPCC = 0x62706363
number_of JP2 = 0x6a703220
number_of RES = 0x72657320
number_of JP2I = 0x6a703269
number_of XML = 0x786d6c20
number_of UUID = 0x75756994
number_of UINF = 0x75696e66
number_of (Unknown n) = n

-- the place of a kind in this list, by which its name is tested; the kinds that have no name have one place
abbrev pub tag : Jp2BoxType → ℕ
tag None = 0
tag JPIP = 1
tag JP = 2
tag FTYP = 3
tag JP2H = 4
tag IHDR = 5
tag COLR = 6
tag JP2C = 7
tag URL = 8
tag PCLR = 9
tag CMAP = 10
tag CDEF = 11
tag DTBL = 12
tag BPCC = 13
tag JP2 = 14
tag RES = 15
tag JP2I = 16
tag XML = 17
tag UUID = 18
tag UINF = 19
tag (Unknown n) = 20

-- whether a kind is the one of a name
abbrev pub ◌is◌ : Jp2BoxType → Jp2BoxType → Test
k is name = tag k =? tag name

-- the boxes of the file that are read
abbrev pub is_file_header : Jp2BoxType → Test
is_file_header k = k is JP or k is FTYP or k is JP2H

-- the boxes that are read inside jp2h
abbrev pub is_image_header : Jp2BoxType → Test
is_image_header k = k is IHDR or k is BPCC or k is COLR or k is PCLR or k is CMAP or k is CDEF

-- a kind that some number has: not None, and not Unknown with the number of a kind that has a name
abbrev pub Proper : Jp2BoxType → Type 0
Proper None = ⊥
Proper JPIP = Unit
Proper JP = Unit
Proper FTYP = Unit
Proper JP2H = Unit
Proper IHDR = Unit
Proper COLR = Unit
Proper JP2C = Unit
Proper URL = Unit
Proper PCLR = Unit
Proper CMAP = Unit
Proper CDEF = Unit
Proper DTBL = Unit
Proper BPCC = Unit
Proper JP2 = Unit
Proper RES = Unit
Proper JP2I = Unit
Proper XML = Unit
Proper UUID = Unit
Proper UINF = Unit
Proper (Unknown n) = kind_of n ≡ Unknown n

-- equal numbers exactly when equal kinds, None apart
pub record KindsAndNumbers : Type 0 where
  pub number_back : (n : ℕ) → number_of (kind_of n) ≡ n
  pub kind_back : (k : Jp2BoxType) → Proper k → kind_of (number_of k) ≡ k
  pub proper : (n : ℕ) → Proper (kind_of n)
  pub same_kind : (k l : Jp2BoxType) → Proper k → Proper l → number_of k ≡ number_of l → k ≡ l
