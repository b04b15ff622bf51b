use Rattle.jr_plain.proofs.Scoped.{has_scope_tells, in_scope_tells, shadows_tells, visible_tells}
use Rattle.jr_plain.proofs.law.scope_is_computed.Goals as goal

pub returns : goal.returns
returns c = record {
  scope = λ p t o d r headed. has_scope_tells p t headed o d r;
  in_scope = λ p t kind x o d r headed. in_scope_tells p t headed kind x o d r;
  shadowing = λ p t o d e headed. shadows_tells p t headed o d e;
  visible = λ p t kind x o d r headed. visible_tells p t headed kind x o d r;
}
