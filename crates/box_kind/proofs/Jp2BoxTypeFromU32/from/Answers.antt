use native.Mathlib.Omega.{arith}
use mathlib.Core.Path.{refl}
use Rattle.box_kind.specs.Kind.{kind_of}
use Rattle.box_number.proofs.Rows.{row}
use Rattle.box_kind.proofs.Jp2BoxTypeFromU32.from.Goals as goal

pub returns-in-1785751920 : goal.returns-in-1785751920
unfolding kind_of
returns-in-1785751920 c = row 0 _ (omega arith) refl

pub returns-in-1783636000 : goal.returns-in-1783636000
unfolding kind_of
returns-in-1783636000 c = row 1 _ (omega arith) refl

pub returns-in-1718909296 : goal.returns-in-1718909296
unfolding kind_of
returns-in-1718909296 c = row 2 _ (omega arith) refl

pub returns-in-1785737832 : goal.returns-in-1785737832
unfolding kind_of
returns-in-1785737832 c = row 3 _ (omega arith) refl

pub returns-in-1768449138 : goal.returns-in-1768449138
unfolding kind_of
returns-in-1768449138 c = row 4 _ (omega arith) refl

pub returns-in-1668246642 : goal.returns-in-1668246642
unfolding kind_of
returns-in-1668246642 c = row 5 _ (omega arith) refl

pub returns-in-1785737827 : goal.returns-in-1785737827
unfolding kind_of
returns-in-1785737827 c = row 6 _ (omega arith) refl

pub returns-in-1970433056 : goal.returns-in-1970433056
unfolding kind_of
returns-in-1970433056 c = row 7 _ (omega arith) refl

pub returns-in-1885564018 : goal.returns-in-1885564018
unfolding kind_of
returns-in-1885564018 c = row 8 _ (omega arith) refl

pub returns-in-1668112752 : goal.returns-in-1668112752
unfolding kind_of
returns-in-1668112752 c = row 9 _ (omega arith) refl

pub returns-in-1667523942 : goal.returns-in-1667523942
unfolding kind_of
returns-in-1667523942 c = row 10 _ (omega arith) refl

pub returns-in-1685348972 : goal.returns-in-1685348972
unfolding kind_of
returns-in-1685348972 c = row 11 _ (omega arith) refl

pub returns-in-1651532643 : goal.returns-in-1651532643
unfolding kind_of
returns-in-1651532643 c = row 12 _ (omega arith) refl

pub returns-in-1785737760 : goal.returns-in-1785737760
unfolding kind_of
returns-in-1785737760 c = row 13 _ (omega arith) refl

pub returns-in-1919251232 : goal.returns-in-1919251232
unfolding kind_of
returns-in-1919251232 c = row 14 _ (omega arith) refl

pub returns-in-1785737833 : goal.returns-in-1785737833
unfolding kind_of
returns-in-1785737833 c = row 15 _ (omega arith) refl

pub returns-in-2020437024 : goal.returns-in-2020437024
unfolding kind_of
returns-in-2020437024 c = row 16 _ (omega arith) refl

pub returns-in-1970629012 : goal.returns-in-1970629012
unfolding kind_of
returns-in-1970629012 c = row 17 _ (omega arith) refl

pub returns-in-1969843814 : goal.returns-in-1969843814
unfolding kind_of
returns-in-1969843814 c = row 18 _ (omega arith) refl

pub returns-in_default : goal.returns-in_default
unfolding kind_of
returns-in_default c = let r = c.in_default.in_default-own.rest in row 19 _ (r.0.0.0.0.0.0.0.0.0.0.0.0.0.0.0.0.0.0.1, (r.0.0.0.0.0.0.0.0.0.0.0.0.0.0.0.0.0.1, (r.0.0.0.0.0.0.0.0.0.0.0.0.0.0.0.0.1, (r.0.0.0.0.0.0.0.0.0.0.0.0.0.0.0.1, (r.0.0.0.0.0.0.0.0.0.0.0.0.0.0.1, (r.0.0.0.0.0.0.0.0.0.0.0.0.0.1, (r.0.0.0.0.0.0.0.0.0.0.0.0.1, (r.0.0.0.0.0.0.0.0.0.0.0.1, (r.0.0.0.0.0.0.0.0.0.0.1, (r.0.0.0.0.0.0.0.0.0.1, (r.0.0.0.0.0.0.0.0.1, (r.0.0.0.0.0.0.0.1, (r.0.0.0.0.0.0.1, (r.0.0.0.0.0.1, (r.0.0.0.0.1, (r.0.0.0.1, (r.0.0.1, (r.0.1, (r.1, tt))))))))))))))))))) refl
