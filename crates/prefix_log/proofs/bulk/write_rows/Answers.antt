use Rattle.prefix_log.specs.declared.bulk.Entry.{Entry}
use Rattle.prefix_log.proofs.Filled.{filled_more, room_more}
use Rattle.prefix_log.proofs.Kept.{any_default}
use Rattle.prefix_log.proofs.bulk.write_rows.Goals as goal

pub loop-i-preserved : goal.loop-i-preserved
loop-i-preserved c =
    let w = c.args.widths.now in
    let es = c.args.entries.now in
    let n = c.loop-i.i in
    let i = c.loop-i.invariant in
    let p = c.in_ok-pieces.pieces in
    let is = c.in_ok-pieces.ensures in
    let at = λ (d : Entry). any_default es n d _ c.loop-i-test.true in
    record {
      zero_room = room_more w 0 n es _ p.zero c.loop-i.zero c.write.new.self i.zero_room.columns c.write.ensures is.zero is.zero_widths _ i.zero_room;
      one_room = room_more w 1 n es _ p.one c.loop-i.one c.write-in-loop-i.new.self i.one_room.columns c.write-in-loop-i.ensures is.one is.one_widths _ i.one_room;
      two_room = room_more w 2 n es _ p.two c.loop-i.two c.write-in-loop-i-2.new.self i.two_room.columns c.write-in-loop-i-2.ensures is.two is.two_widths _ i.two_room;
      zero_rows = filled_more w 0 n es _ p.zero c.loop-i.zero c.write.new.self i.zero_room.columns c.write.ensures is.zero is.zero_widths at i.zero_rows;
      one_rows = filled_more w 1 n es _ p.one c.loop-i.one c.write-in-loop-i.new.self i.one_room.columns c.write-in-loop-i.ensures is.one is.one_widths at i.one_rows;
      two_rows = filled_more w 2 n es _ p.two c.loop-i.two c.write-in-loop-i-2.new.self i.two_room.columns c.write-in-loop-i-2.ensures is.two is.two_widths at i.two_rows;
    }
