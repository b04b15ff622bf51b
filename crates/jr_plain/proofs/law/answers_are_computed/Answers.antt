use Rattle.std.proofs.Common.{◌≡◌, refl, true}
use Rattle.jr_plain.proofs.Answered.{answer_is}
use Rattle.jr_plain.proofs.law.answers_are_computed.Goals as goal

pub returns : goal.returns
returns c = record { answer = λ C other all tells. answer_is (λ d level. C d level ≡ true) (λ a. a ≡ other) all tells other (λ never. refl) }
