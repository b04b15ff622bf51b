use Rattle.std.proofs.Common.{◌≡◌, sym, ◌∙◌, ap, arith, length, nat_eq}
use Rattle.std.proofs.lemmas.Bool.{false≢true}
use Rattle.std.proofs.lemmas.Bool.Decides.{Decides-eqb}
use Rattle.std.proofs.lemmas.Result.{IfOk-weaker}
use Rattle.std.proofs.lemmas.List.{nil_from_length}
use Rattle.jr_tree.specs.Rows.{name}
use Rattle.jr_spelling_rules.specs.Naming.{in_type}
use Rattle.jr_spell.specs.Spellers.{rows_of, table_of}
use Rattle.jr_spell.proofs.Named.{first_ambiguous, then_ambiguous}
use Rattle.jr_spell.proofs.speller.Speller.fields_or_types_of.Goals as goal

pub returns-then-not-is_empty : goal.returns-then-not-is_empty
returns-then-not-is_empty c = λ whole number. let s = c.args.self.now in let p = rows_of s in let t = table_of s in
    first_ambiguous p t (name p c.args.name) (in_type c.args.class) c.in_ok-fields.fields.items (c.in_ok-fields.ensures whole number)
    (λ e. let same : c.in_ok-fields.fields.len ≡ length c.in_ok-fields.fields.items = omega (arith, c.in_ok-fields.fields.ok.0) in
    false≢true (sym c.if-not-is_empty.true ∙ c.is_empty.ensures ∙ ap (λ n. nat_eq n 0) same ∙ (Decides-eqb (length c.in_ok-fields.fields.items) 0).1 e))

pub returns : goal.returns
returns c = λ whole number. let s = c.args.self.now in let p = rows_of s in let t = table_of s in
    let none = (Decides-eqb c.in_ok-fields.fields.len 0).0 (sym c.is_empty.ensures ∙ c.if-not-is_empty.false) in
    let empty : length c.in_ok-fields.fields.items ≡ 0 = omega (arith, c.in_ok-fields.fields.ok.0) in
    IfOk-weaker c.types_of.result _ _ (λ found lists. then_ambiguous p t (name p c.args.name) (in_type c.args.class) c.in_ok-fields.fields.items found.items (c.in_ok-fields.ensures whole number) (nil_from_length c.in_ok-fields.fields.items empty) lists) (c.types_of.ensures whole number)
