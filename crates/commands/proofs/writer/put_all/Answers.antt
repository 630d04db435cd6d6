use Rattle.std.proofs.Common.{ℕ, refl, List, ◌++◌, map, length, drop, ap, ◌∙◌, arith, rules}
use Rattle.std.specs.List.{flat_map}
use Rattle.std.proofs.lemmas.List.{take_all}
use Rattle.commands.specs.declared.command.Command.{Command}
use Rattle.commands.specs.Commands.{bytes, said}
use Rattle.commands.proofs.Writing.{put_next, room_at, whole_at, room_in_part}
use Rattle.commands.proofs.writer.put_all.Goals as goal

pub put-at-requires : goal.put-at-requires
put-at-requires c =
    let ds = c.args.commands.now in
    let i = c.loop-command.command-index in
    record { whole = whole_at ds i _ c.loop-command-test.true c.requires.whole; room = room_in_part ds i c.loop-command.at (length c.args.buffer.now) c.loop-command.buffer _ c.loop-command-test.true c.loop-command.invariant.0 c.requires.room c.loop-command.auto.buffer }

pub overflow_add-at : goal.overflow_add-at
overflow_add-at c =
    let n = length c.args.buffer.now in
    let h = room_at c.args.commands.now c.loop-command.command-index c.loop-command.at n n c.put-at.result _ c.loop-command-test.true c.loop-command.invariant.0 c.requires.room refl c.put-at.ensures.long in
    search rules

pub loop-command-preserved : goal.loop-command-preserved
loop-command-preserved c =
    let ds = c.args.commands.now in
    let i = c.loop-command.command-index in
    let b = c.loop-command.buffer in
    let at = c.loop-command.at in
    let h = room_at ds i at (length c.args.buffer.now) (length b) c.put-at.result _ c.loop-command-test.true c.loop-command.invariant.0 c.requires.room c.loop-command.auto.buffer c.put-at.ensures.long in
    put_next ds i at c.put-at.result _ c.args.buffer.now b _ c.loop-command-test.true c.put-at.ensures.long c.loop-command.invariant.0 c.loop-command.invariant.1 h c.put-at.ensures.writes

pub returns : goal.returns
returns c =
    let e = ap (λ (ds : List Command). flat_map bytes (map said ds)) (take_all c.loop-command.command-index c.args.commands.now (omega arith)) in
    record { long = c.loop-command.invariant.0 ∙ ap length e; writes = c.loop-command.invariant.1 ∙ ap (λ (w : List ℕ). w ++ drop c.loop-command.at c.args.buffer.now) e }
