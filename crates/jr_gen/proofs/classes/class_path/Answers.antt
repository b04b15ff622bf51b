use Rattle.std.proofs.Common.{◌^◌, ◌<◌, arith}
use Rattle.jr_base.specs.Paths.{IsPath}
use Rattle.jr_gen.proofs.Names.{is_path}
use Rattle.jr_gen.proofs.classes.class_path.Goals as goal

pub unreachable-requires : goal.unreachable-requires
unreachable-requires c =
    let small : c.args.number < 2 ^ 64 = omega arith in
    let path : IsPath c.as_bytes.result.now = rw (c.as_bytes.ensures.value, c.in_ok-name.ensures.ok) (is_path c.args.number small) in
    c.in_default.not-OutOfMemory (c.in-Err.ensures.only path)
