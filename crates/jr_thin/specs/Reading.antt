-- A class read token by token, with what each token is to the names of its locals and parameters.
use Rattle.std.specs.Prelude.{ℕ, ◌+◌, Bool, true, false, List, [], ◌∷◌, ◌++◌, Option, Some, None, option_map, option_and_then, if◌then◌else◌}
use Rattle.jr_base.specs.declared.kind.Kind.{Kind}
use Rattle.jr_base.specs.declared.kind.Kind.TheVariants as kind
use Rattle.jr_base.specs.declared.kind.Keyword.{Keyword}
use Rattle.jr_base.specs.declared.kind.Keyword.TheVariants as keyword
use Rattle.jr_base.specs.declared.kind.Symbol.{Symbol}
use Rattle.jr_base.specs.declared.kind.Symbol.TheVariants as symbol
use Rattle.jr_thin.specs.declared.sites.Site.{Site}
use Rattle.jr_thin.specs.declared.sites.Role.{Role}
use Rattle.jr_thin.specs.declared.sites.Role.TheVariants.{Plain, Param, Local, Use}
use Rattle.jr_thin.specs.declared.reading.Terminal.{Terminal}
use Rattle.jr_thin.specs.declared.reading.Terminal.TheVariants as terminal
use Rattle.jr_thin.specs.declared.reading.Phase.{Phase}
use Rattle.jr_thin.specs.declared.reading.Phase.TheVariants.{Start, ClassName, ClassOpen, Member, MemberInt, MethodName, ParamsOpen, FirstParam, ParamName, AfterParam, NextParam, BodyOpen, Statement, LocalName, LocalAssign, Term, AfterTerm, End}
use Rattle.jr_thin.specs.declared.reading.Step.{Step}
use Rattle.jr_thin.specs.Sites.{plain}

abbrev pub word_terminal : Keyword → Terminal
word_terminal keyword.Class = terminal.Class
word_terminal keyword.Static = terminal.Static
word_terminal keyword.Int = terminal.Int
word_terminal keyword.Return = terminal.Return
word_terminal other = terminal.Other

abbrev pub symbol_terminal : Symbol → Terminal
symbol_terminal symbol.OpenParen = terminal.OpenParen
symbol_terminal symbol.CloseParen = terminal.CloseParen
symbol_terminal symbol.OpenBrace = terminal.OpenBrace
symbol_terminal symbol.CloseBrace = terminal.CloseBrace
symbol_terminal symbol.Comma = terminal.Comma
symbol_terminal symbol.Semicolon = terminal.Semicolon
symbol_terminal symbol.Assign = terminal.Assign
symbol_terminal symbol.Plus = terminal.Plus
symbol_terminal other = terminal.Other

-- what a token is to the grammar of the class
abbrev pub terminal_of : Kind → Terminal
terminal_of (kind.Word word) = word_terminal word
terminal_of (kind.Sym symbol) = symbol_terminal symbol
terminal_of (kind.Ident name) = terminal.Name
terminal_of (kind.Int value) = terminal.Literal
terminal_of other = terminal.Other

abbrev pub text_of : Kind → List ℕ
text_of (kind.Ident name) = name
text_of other = []

abbrev pub plain_step : Phase → ℕ → Step
plain_step phase nodes = record { phase = phase; role = Plain; nodes = nodes; opens_sum = false; ends_method = false }

abbrev pub sum_step : ℕ → Step
sum_step nodes = record { phase = Term; role = Plain; nodes = nodes; opens_sum = true; ends_method = false }

abbrev pub name_step : Phase → Role → ℕ → Step
name_step phase role nodes = record { phase = phase; role = role; nodes = nodes; opens_sum = false; ends_method = false }

-- the phase after a token, what the token is, and how many nodes begin with it
unfoldable pub next : Phase → Terminal → Option Step
next Start terminal.Class = Some (plain_step ClassName 2)
next ClassName terminal.Name = Some (plain_step ClassOpen 0)
next ClassOpen terminal.OpenBrace = Some (plain_step Member 0)
next Member terminal.Static = Some (plain_step MemberInt 1)
next Member terminal.CloseBrace = Some (plain_step End 0)
next MemberInt terminal.Int = Some (plain_step MethodName 1)
next MethodName terminal.Name = Some (plain_step ParamsOpen 0)
next ParamsOpen terminal.OpenParen = Some (plain_step FirstParam 0)
next FirstParam terminal.Int = Some (plain_step ParamName 0)
next FirstParam terminal.CloseParen = Some (plain_step BodyOpen 0)
next ParamName terminal.Name = Some (name_step AfterParam Param 2)
next AfterParam terminal.Comma = Some (plain_step NextParam 0)
next AfterParam terminal.CloseParen = Some (plain_step BodyOpen 0)
next NextParam terminal.Int = Some (plain_step ParamName 0)
next BodyOpen terminal.OpenBrace = Some (plain_step Statement 1)
next Statement terminal.Int = Some (plain_step LocalName 0)
next Statement terminal.Return = Some (sum_step 1)
next Statement terminal.CloseBrace = Some (record { phase = Member; role = Plain; nodes = 0; opens_sum = false; ends_method = true })
next LocalName terminal.Name = Some (name_step LocalAssign Local 4)
next LocalAssign terminal.Assign = Some (sum_step 0)
next Term terminal.Literal = Some (plain_step AfterTerm 1)
next Term terminal.Name = Some (name_step AfterTerm Use 2)
next AfterTerm terminal.Plus = Some (plain_step Term 0)
next AfterTerm terminal.Semicolon = Some (plain_step Statement 0)
next phase terminal = None

abbrev pub is_end : Phase → Bool
is_end End = true
is_end phase = false

-- the operators of the sum that begins here, up to its semicolon
abbrev pub count_plus : Terminal → ℕ → ℕ
count_plus terminal.Plus more = 1 + more
count_plus terminal.Semicolon more = 0
count_plus _ more = more

abbrev pub pluses : List Kind → ℕ
pluses [] = 0
pluses (kind ∷ kinds) = count_plus (terminal_of kind) (pluses kinds)

-- the node by which the name is known, behind the first that begins with it: the Param, the Declarator or the Name
abbrev pub node_behind : Role → ℕ
node_behind Plain = 0
node_behind Param = 0
node_behind Local = 2
node_behind Use = 1

abbrev pub site_of : Role → ℕ → ℕ → Kind → Site
site_of Plain method node kind = plain
site_of role method node kind = record { role = role; method = method; node = node + node_behind role; text = text_of kind }

-- the operators of a sum are nodes before its operands
abbrev pub nodes_of : Step → List Kind → ℕ
nodes_of step kinds = step.nodes + (if step.opens_sum then pluses kinds else 0)

abbrev pub method_after : ℕ → Step → ℕ
method_after method step = if step.ends_method then method + 1 else method

-- what each token is, from a phase on, where the method and the node that come next have these numbers
abbrev pub sites_from : Phase → ℕ → ℕ → List Kind → Option (List Site)
sites_from phase method node [] = if is_end phase then Some [] else None
sites_from phase method node (kind ∷ kinds) =
    option_and_then (λ step. option_map (λ sites. site_of step.role method node kind ∷ sites)
    (sites_from step.phase (method_after method step) (node + nodes_of step kinds) kinds)) (next phase (terminal_of kind))

-- what each token of a class is; None where the tokens are no class
abbrev pub sites_in : List Kind → Option (List Site)
sites_in kinds = sites_from Start 0 0 kinds

-- these, and then more
abbrev pub with_front : {A : Type 0} → List A → Option (List A) → Option (List A)
with_front front more = option_map (λ rest. front ++ rest) more
