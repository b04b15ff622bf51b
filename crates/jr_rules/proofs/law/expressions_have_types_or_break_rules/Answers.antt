use Rattle.jr_rules.proofs.Completeness.{typed_or_breaks}
use Rattle.jr_rules.proofs.law.expressions_have_types_or_break_rules.Goals as goal

pub returns : goal.returns
returns c = record { typed = λ p t n typable parts. typed_or_breaks p t typable n parts }
