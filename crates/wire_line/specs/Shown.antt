-- What contracts see of a wire over a lent one, and of one that shifts.
use Rattle.std.specs.Prelude.{◌≡◌}
use Rattle.wire_line.specs.declared.lent.LentWire.{LentWire}
use Rattle.wire_line.specs.declared.shift.ShiftWire.{ShiftWire}
use Rattle.wire_line.specs.Shifts.{Shifting, sight_shifted}
use Rattle.wire_line.specs.Sights.{Sight}

-- over a lent wire: what is seen of that wire; it stays the one that is lent
abbrev pub sight_lent : {S : Type 0} → Sight S → Sight (LentWire S)
sight_lent sight = record {
  reported = λ w. sight.reported w.inner.now;
  alterations = λ w. sight.alterations w.inner.now;
  passes = λ w ms v. (v.inner.ghost_name ≡ w.inner.ghost_name) × sight.passes w.inner.now ms v.inner.now;
}

abbrev pub shown : {S : Type 0} → ShiftWire S → Shifting S
shown w = record { inner = w.inner; shifts = w.shifts; messages = w.messages.items; changed = w.changed }

-- over a wire below
abbrev pub sight_over : {S : Type 0} → Sight S → Sight (ShiftWire S)
sight_over sight = record {
  reported = λ w. (sight_shifted sight).reported (shown w);
  alterations = λ w. (sight_shifted sight).alterations (shown w);
  passes = λ w ms v. (sight_shifted sight).passes (shown w) ms (shown v);
}
