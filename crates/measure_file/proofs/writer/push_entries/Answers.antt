use Rattle.std.proofs.Common.{◌++◌, map}
use Rattle.ctt_reader.specs.Entries.{course_names, room_names}
use Rattle.measure_file.specs.Writing.{has_line, need_line, deny_line, closed_line, prefer_line, robust_line, length_line}
use Rattle.measure_file.proofs.WriteLemmas.{then-written}
use Rattle.measure_file.proofs.writer.push_entries.Goals as goal

pub returns : goal.returns
returns c =
    let m = c.args.m.now in
    let courses = course_names c.args.i.now.courses in
    let rooms = room_names c.args.i.now.rooms in
    let lengths = map (length_line courses) m.lengths in
    let robust = map robust_line m.robust ++ lengths in
    let prefer = map (prefer_line courses rooms) m.prefer ++ robust in
    let closed = map (closed_line rooms) m.closed ++ prefer in
    let denied = map (deny_line courses rooms) m.denied ++ closed in
    let needs = map (need_line courses m.features) m.needs ++ denied in
    let t0 = c.args.text.now.items in
    let t1 = c.push_all_has.new.text.items in
    let t2 = c.push_all_needs.new.text.items in
    let t3 = c.push_all_denied.new.text.items in
    let t4 = c.push_all_closures.new.text.items in
    let t5 = c.push_all_preferences.new.text.items in
    let t6 = c.push_all_thresholds.new.text.items in
    let t7 = c.push_all_lengths.new.text.items in
    let six = then-written t5 t6 t7 (map robust_line m.robust) lengths c.in_ok-push_all_thresholds.ensures c.in_ok-push_all_lengths.ensures in
    let five = then-written t4 t5 t7 (map (prefer_line courses rooms) m.prefer) robust c.in_ok-push_all_preferences.ensures six in
    let four = then-written t3 t4 t7 (map (closed_line rooms) m.closed) prefer c.in_ok-push_all_closures.ensures five in
    let three = then-written t2 t3 t7 (map (deny_line courses rooms) m.denied) closed c.in_ok-push_all_denied.ensures four in
    let two = then-written t1 t2 t7 (map (need_line courses m.features) m.needs) denied c.in_ok-push_all_needs.ensures three in
    then-written t0 t1 t7 (map (has_line rooms m.features) m.has) needs c.in_ok-push_all_has.ensures two
