-- The thirteen numbers of a component (`opj_image_comp` of the crate's image.rs), in the order of its fields.
use Rattle.std.specs.Prelude.{ℕ}

abbrev pub dx : ℕ
dx = 0

abbrev pub dy : ℕ
dy = 1

abbrev pub w : ℕ
w = 2

abbrev pub h : ℕ
h = 3

abbrev pub x0 : ℕ
x0 = 4

abbrev pub y0 : ℕ
y0 = 5

abbrev pub prec : ℕ
prec = 6

abbrev pub bpp : ℕ
bpp = 7

abbrev pub sgnd : ℕ
sgnd = 8

abbrev pub resno_decoded : ℕ
resno_decoded = 9

abbrev pub factor : ℕ
factor = 10

-- the index of the first sample in the lent list of samples, or `no_data`
abbrev pub «data» : ℕ
«data» = 11

-- the mark
abbrev pub alpha : ℕ
alpha = 12

-- the most components that a picture can have
abbrev pub most_components : ℕ
most_components = 16384

-- how many numbers a component has
abbrev pub numbers_each : ℕ
numbers_each = 13

abbrev pub no_data : ℕ
no_data = 4294967295
