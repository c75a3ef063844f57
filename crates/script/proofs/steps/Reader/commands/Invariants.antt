use Rattle.std.proofs.Common.{◌≡◌, ◌-◌, ◌≤◌, length, drop, replicate}
use Rattle.script.specs.Tokens.{token_at}
use Rattle.script.specs.Reading.{text_in, blank_order, blank_name}
use Rattle.script.specs.Filled.{room_of, commands_for, Same}
use Rattle.script.proofs.Turns.{Underway, read_in}
use Rattle.script.proofs.steps.Reader.commands.Given as goal

-- What is read so far stands at the front of the tables, which are blank after it; reading on from there is
-- what reading from the start was.
abbrev pub invariant-loop-first : goal.invariant-loop-first
invariant-loop-first l = record {
  orders_kept : Same l.fn.orders l.orders;
  names_kept : Same l.fn.names l.names;
  orders_used : l.orders.used ≤ length l.orders.rows.now;
  names_used : l.names.used ≤ length l.names.rows.now;
  orders_left : drop l.orders.used l.orders.rows.now ≡ replicate (length l.orders.rows.now - l.orders.used) blank_order;
  names_left : drop l.names.used l.names.rows.now ≡ replicate (length l.names.rows.now - l.names.used) blank_name;
  underway : Underway (token_at l.self.script.now) (text_in l.self.script.now) (room_of l.names) (room_of l.orders) l.orders.used (read_in l.orders.rows.now l.orders.used l.names.rows.now l.names.used) l.self.pos (commands_for l.fn.orders l.fn.names l.fn.self.script.now l.fn.self.pos);
}

abbrev pub decreases-loop-first : goal.decreases-loop-first
decreases-loop-first l = room_of l.orders - l.orders.used
