use Rattle.std.proofs.Common.{ℕ, ◌<◌, ◌≡◌, get_or, length}
use Rattle.picture_order.proofs.positions.Positions.start.Given as goal

-- before channel c: those before it have their places
abbrev pub invariant-loop-c : goal.invariant-loop-c
invariant-loop-c g l = record {
  none : l.self.n ≡ 0;
  positions-long : length l.self.positions ≡ g.row.N;
  channels-long : length l.self.channels ≡ g.row.N;
  positions : (c : ℕ) → c < l.c → get_or l.self.positions c 0 ≡ c;
  channels : (c : ℕ) → c < l.c → get_or l.self.channels c 0 ≡ c;
}
