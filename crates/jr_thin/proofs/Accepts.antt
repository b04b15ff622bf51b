-- What is read is a class written out.
use Rattle.std.proofs.Common.{◌≡◌, ℕ, ◌+◌, cond, List, [], ◌∷◌, ◌++◌, Some, None, Option, refl, sym, ap, subst, ◌∙◌, append_assoc}
use Rattle.std.specs.Prelude.{ℤ, option_map}
use Rattle.std.proofs.lemmas.Option.{option_and_then_some}
use Rattle.jr_base.specs.declared.kind.Kind.{Kind}
use Rattle.jr_base.specs.declared.kind.Kind.TheVariants as kind
use Rattle.jr_base.specs.declared.kind.Keyword.{Keyword}
use Rattle.jr_base.specs.declared.kind.Keyword.TheVariants as keyword
use Rattle.jr_base.specs.declared.kind.Symbol.{Symbol}
use Rattle.jr_base.specs.declared.kind.Symbol.TheVariants as symbol
use Rattle.jr_thin.specs.declared.sites.Site.{Site}
use Rattle.jr_thin.specs.declared.reading.Terminal.{Terminal}
use Rattle.jr_thin.specs.declared.reading.Terminal.TheVariants as terminal
use Rattle.jr_thin.specs.declared.reading.Phase.{Phase}
use Rattle.jr_thin.specs.declared.reading.Phase.TheVariants.{Start, ClassName, ClassOpen, Member, MemberInt, MethodName, ParamsOpen, FirstParam, ParamName, AfterParam, NextParam, BodyOpen, Statement, LocalName, LocalAssign, Term, AfterTerm, End}
use Rattle.jr_thin.specs.declared.reading.Step.{Step}
use Rattle.jr_thin.specs.Reading.{word_terminal, symbol_terminal, terminal_of, next, is_end, site_of, nodes_of, method_after, sites_from, sites_in}
use Rattle.jr_thin.specs.Sites.{sites_of}
use Rattle.jr_thin.specs.Trees.{Operand, Sum, Method, ThinClass, operand_tokens, others_tokens, sum_tokens, statement_tokens, later_params, params_tokens, body_tokens, method_tokens, methods_tokens, tokens_of}
use Rattle.jr_thin.specs.Trees as tree
use Rattle.jr_thin.proofs.Walks.{class_walk}

-- which token the terminal stands for
abbrev pub IsKind : Terminal → Kind → Type 0
IsKind terminal.Class k = k ≡ kind.Word keyword.Class
IsKind terminal.Static k = k ≡ kind.Word keyword.Static
IsKind terminal.Int k = k ≡ kind.Word keyword.Int
IsKind terminal.Return k = k ≡ kind.Word keyword.Return
IsKind terminal.Name k = (x : List ℕ) × (k ≡ kind.Ident x)
IsKind terminal.Literal k = (n : ℤ) × (k ≡ kind.Int n)
IsKind terminal.OpenParen k = k ≡ kind.Sym symbol.OpenParen
IsKind terminal.CloseParen k = k ≡ kind.Sym symbol.CloseParen
IsKind terminal.OpenBrace k = k ≡ kind.Sym symbol.OpenBrace
IsKind terminal.CloseBrace k = k ≡ kind.Sym symbol.CloseBrace
IsKind terminal.Comma k = k ≡ kind.Sym symbol.Comma
IsKind terminal.Semicolon k = k ≡ kind.Sym symbol.Semicolon
IsKind terminal.Assign k = k ≡ kind.Sym symbol.Assign
IsKind terminal.Plus k = k ≡ kind.Sym symbol.Plus
IsKind terminal.Other k = Unit {0}

word_kind : (w : Keyword) → IsKind (word_terminal w) (kind.Word w)
word_kind keyword.Class = refl
word_kind keyword.Static = refl
word_kind keyword.Int = refl
word_kind keyword.Return = refl
word_kind _ = tt

symbol_kind : (s : Symbol) → IsKind (symbol_terminal s) (kind.Sym s)
symbol_kind symbol.OpenParen = refl
symbol_kind symbol.CloseParen = refl
symbol_kind symbol.OpenBrace = refl
symbol_kind symbol.CloseBrace = refl
symbol_kind symbol.Comma = refl
symbol_kind symbol.Semicolon = refl
symbol_kind symbol.Assign = refl
symbol_kind symbol.Plus = refl
symbol_kind _ = tt

pub kind_is : (k : Kind) → IsKind (terminal_of k) k
kind_is (kind.Word w) = word_kind w
kind_is (kind.Sym s) = symbol_kind s
kind_is (kind.Ident x) = (x, refl)
kind_is (kind.Int n) = (n, refl)
kind_is _ = tt

abbrev Members : List Kind → Type 0
Members ks = (ms : List Method) × (ks ≡ methods_tokens ms ++ kind.Sym symbol.CloseBrace ∷ [])

abbrev Body : List Kind → Type 0
Body ks = (ss : List tree.Statement) × (rest : List Kind) × Members rest × (ks ≡ body_tokens ss ++ kind.Sym symbol.CloseBrace ∷ rest)

abbrev Others : List Kind → Type 0
Others ks = (ts : List Operand) × (rest : List Kind) × Body rest × (ks ≡ others_tokens ts ++ kind.Sym symbol.Semicolon ∷ rest)

abbrev Operands : List Kind → Type 0
Operands ks = (t : Operand) × (rest : List Kind) × Others rest × (ks ≡ operand_tokens t ++ rest)

abbrev Opening : List Kind → Type 0
Opening ks = (rest : List Kind) × Body rest × (ks ≡ kind.Sym symbol.OpenBrace ∷ rest)

abbrev Later : List Kind → Type 0
Later ks = (xs : List (List ℕ)) × (rest : List Kind) × Opening rest × (ks ≡ later_params xs ++ kind.Sym symbol.CloseParen ∷ rest)

abbrev Params : List Kind → Type 0
Params ks = (xs : List (List ℕ)) × (rest : List Kind) × Opening rest × (ks ≡ params_tokens xs ++ kind.Sym symbol.CloseParen ∷ rest)

-- after this
abbrev pub After : Kind → (List Kind → Type 0) → List Kind → Type 0
After k P ks = (rest : List Kind) × P rest × (ks ≡ k ∷ rest)

-- after a name
abbrev pub AfterName : (List Kind → Type 0) → List Kind → Type 0
AfterName P ks = (x : List ℕ) × (rest : List Kind) × P rest × (ks ≡ kind.Ident x ∷ rest)

-- what may follow in a phase
abbrev Follows : Phase → List Kind → Type 0
Follows Start = After (kind.Word keyword.Class) (AfterName (After (kind.Sym symbol.OpenBrace) Members))
Follows ClassName = AfterName (After (kind.Sym symbol.OpenBrace) Members)
Follows ClassOpen = After (kind.Sym symbol.OpenBrace) Members
Follows Member = Members
Follows MemberInt = After (kind.Word keyword.Int) (AfterName (After (kind.Sym symbol.OpenParen) Params))
Follows MethodName = AfterName (After (kind.Sym symbol.OpenParen) Params)
Follows ParamsOpen = After (kind.Sym symbol.OpenParen) Params
Follows FirstParam = Params
Follows ParamName = AfterName Later
Follows AfterParam = Later
Follows NextParam = After (kind.Word keyword.Int) (AfterName Later)
Follows BodyOpen = Opening
Follows Statement = Body
Follows LocalName = AfterName (After (kind.Sym symbol.Assign) Operands)
Follows LocalAssign = After (kind.Sym symbol.Assign) Operands
Follows Term = Operands
Follows AfterTerm = Others
Follows End = λ ks. ks ≡ []

-- a statement more
statement_more : (s : tree.Statement) (ss : List tree.Statement) (rest : List Kind) → statement_tokens s ++ (body_tokens ss ++ kind.Sym symbol.CloseBrace ∷ rest) ≡ body_tokens (s ∷ ss) ++ kind.Sym symbol.CloseBrace ∷ rest
statement_more s ss rest = sym (append_assoc (statement_tokens s) (body_tokens ss) (kind.Sym symbol.CloseBrace ∷ rest))

-- the sum and its end
sum_end : (t : Operand) (ts : List Operand) (rest : List Kind) → operand_tokens t ++ (others_tokens ts ++ kind.Sym symbol.Semicolon ∷ rest) ≡ (sum_tokens (record { first = t; others = ts }) ++ kind.Sym symbol.Semicolon ∷ []) ++ rest
sum_end t ts rest =
    sym (append_assoc (operand_tokens t) (others_tokens ts) (kind.Sym symbol.Semicolon ∷ rest))
    ∙ sym (append_assoc (operand_tokens t ++ others_tokens ts) (kind.Sym symbol.Semicolon ∷ []) rest)

statement_return : (ks : List Kind) → Operands ks → Body (kind.Word keyword.Return ∷ ks)
statement_return ks o =
    let others = o.2 in
    let body = others.2 in
    let e : Sum = record { first = o.0; others = others.0 } in (
      tree.Return e ∷ body.0,
      body.1,
      body.2,
      ap (λ (l : List Kind). kind.Word keyword.Return ∷ l) (o.3 ∙ ap (λ (l : List Kind). operand_tokens o.0 ++ l) others.3 ∙ sum_end o.0 others.0 others.1
          ∙ ap (λ (l : List Kind). (sum_tokens e ++ kind.Sym symbol.Semicolon ∷ []) ++ l) body.3)
          ∙ statement_more (tree.Return e) body.0 body.1,
    )

statement_local : (ks : List Kind) → AfterName (After (kind.Sym symbol.Assign) Operands) ks → Body (kind.Word keyword.Int ∷ ks)
statement_local ks named =
    let assigned = named.2 in
    let o = assigned.1 in
    let others = o.2 in
    let body = others.2 in
    let e : Sum = record { first = o.0; others = others.0 } in (
      tree.Local named.0 e ∷ body.0,
      body.1,
      body.2,
      ap (λ (l : List Kind). kind.Word keyword.Int ∷ l) (named.3 ∙ ap (λ (l : List Kind). kind.Ident named.0 ∷ l) (assigned.2 ∙ ap (λ (l : List Kind). kind.Sym symbol.Assign ∷ l)
          (o.3 ∙ ap (λ (l : List Kind). operand_tokens o.0 ++ l) others.3 ∙ sum_end o.0 others.0 others.1
          ∙ ap (λ (l : List Kind). (sum_tokens e ++ kind.Sym symbol.Semicolon ∷ []) ++ l) body.3)))
          ∙ statement_more (tree.Local named.0 e) body.0 body.1,
    )

-- a method more
method_more : (ks : List Kind) → After (kind.Word keyword.Int) (AfterName (After (kind.Sym symbol.OpenParen) Params)) ks → Members (kind.Word keyword.Static ∷ ks)
method_more ks int =
    let named = int.1 in
    let params = named.2.1 in
    let body = params.2.1 in
    let members = body.2 in
    let m : Method = record { name = named.0; params = params.0; body = body.0 } in (
      m ∷ members.0,
      ap (λ (l : List Kind). kind.Word keyword.Static ∷ l) (int.2 ∙ ap (λ (l : List Kind). kind.Word keyword.Int ∷ l) (named.3 ∙ ap (λ (l : List Kind). kind.Ident named.0 ∷ l) (named.2.2 ∙ ap (λ (l : List Kind). kind.Sym symbol.OpenParen ∷ l)
          (params.3 ∙ ap (λ (l : List Kind). params_tokens params.0 ++ kind.Sym symbol.CloseParen ∷ l) (params.2.2 ∙ ap (λ (l : List Kind). kind.Sym symbol.OpenBrace ∷ l) (body.3 ∙ ap (λ (l : List Kind). body_tokens body.0 ++ kind.Sym symbol.CloseBrace ∷ l) members.1))))))
          ∙ regrouped m members.0,
    )
  where
    regrouped : (m : Method) (ms : List Method) → kind.Word keyword.Static ∷ kind.Word keyword.Int ∷ kind.Ident m.name ∷ kind.Sym symbol.OpenParen ∷ (params_tokens m.params ++ kind.Sym symbol.CloseParen ∷ kind.Sym symbol.OpenBrace ∷ (body_tokens m.body ++ kind.Sym symbol.CloseBrace ∷ (methods_tokens ms ++ kind.Sym symbol.CloseBrace ∷ []))) ≡ methods_tokens (m ∷ ms) ++ kind.Sym symbol.CloseBrace ∷ []
    regrouped m ms = simp append_assoc

param_first : (ks : List Kind) → AfterName Later ks → Params (kind.Word keyword.Int ∷ ks)
param_first ks f = (f.0 ∷ f.2.0, f.2.1, f.2.2, ap (λ (l : List Kind). kind.Word keyword.Int ∷ l) (f.3 ∙ ap (λ (l : List Kind). kind.Ident f.0 ∷ l) f.2.3))

param_later : (ks : List Kind) → After (kind.Word keyword.Int) (AfterName Later) ks → Later (kind.Sym symbol.Comma ∷ ks)
param_later ks f =
    let n = f.1 in
    (n.0 ∷ n.2.0, n.2.1, n.2.2, ap (λ (l : List Kind). kind.Sym symbol.Comma ∷ l) (f.2 ∙ ap (λ (l : List Kind). kind.Word keyword.Int ∷ l) (n.3 ∙ ap (λ (l : List Kind). kind.Ident n.0 ∷ l) n.2.3)))

operand_more : (ks : List Kind) → Operands ks → Others (kind.Sym symbol.Plus ∷ ks)
operand_more ks f =
    (f.0 ∷ f.2.0, f.2.1, f.2.2, ap (λ (l : List Kind). kind.Sym symbol.Plus ∷ l) (f.3 ∙ ap (λ (l : List Kind). operand_tokens f.0 ++ l) f.2.3 ∙ sym (append_assoc (operand_tokens f.0) (others_tokens f.2.0) (kind.Sym symbol.Semicolon ∷ f.2.1))))

-- after a step, what follows it follows here
abbrev Onward : Option Step → Phase → Kind → List Kind → Type 0
Onward None phase k ks = Unit {0}
Onward (Some s) phase k ks = Follows s.phase ks → Follows phase (k ∷ ks)

-- the same at an equal token
pub headed : (P : List Kind → Type 0) (k other : Kind) (ks : List Kind) → k ≡ other → P (other ∷ ks) → P (k ∷ ks)
headed P k other ks same holds = subst (λ h. P (h ∷ ks)) (sym same) holds

step : (phase : Phase) (t : Terminal) (k : Kind) (ks : List Kind) → IsKind t k → Onward (next phase t) phase k ks
unfolding next
step Start terminal.Class k ks is = λ f. (ks, f, ap (λ h. h ∷ ks) is)
step ClassName terminal.Name k ks is = λ f. (is.0, ks, f, ap (λ h. h ∷ ks) is.1)
step ClassOpen terminal.OpenBrace k ks is = λ f. (ks, f, ap (λ h. h ∷ ks) is)
step Member terminal.Static k ks is = λ f. headed Members k _ ks is (method_more ks f)
step Member terminal.CloseBrace k ks is = λ f. headed Members k _ ks is ([], ap (λ (l : List Kind). kind.Sym symbol.CloseBrace ∷ l) f)
step MemberInt terminal.Int k ks is = λ f. (ks, f, ap (λ h. h ∷ ks) is)
step MethodName terminal.Name k ks is = λ f. (is.0, ks, f, ap (λ h. h ∷ ks) is.1)
step ParamsOpen terminal.OpenParen k ks is = λ f. (ks, f, ap (λ h. h ∷ ks) is)
step FirstParam terminal.Int k ks is = λ f. headed Params k _ ks is (param_first ks f)
step FirstParam terminal.CloseParen k ks is = λ f. headed Params k _ ks is ([], ks, f, refl)
step ParamName terminal.Name k ks is = λ f. (is.0, ks, f, ap (λ h. h ∷ ks) is.1)
step AfterParam terminal.Comma k ks is = λ f. headed Later k _ ks is (param_later ks f)
step AfterParam terminal.CloseParen k ks is = λ f. headed Later k _ ks is ([], ks, f, refl)
step NextParam terminal.Int k ks is = λ f. (ks, f, ap (λ h. h ∷ ks) is)
step BodyOpen terminal.OpenBrace k ks is = λ f. (ks, f, ap (λ h. h ∷ ks) is)
step Statement terminal.Int k ks is = λ f. headed Body k _ ks is (statement_local ks f)
step Statement terminal.Return k ks is = λ f. headed Body k _ ks is (statement_return ks f)
step Statement terminal.CloseBrace k ks is = λ f. headed Body k _ ks is ([], ks, f, refl)
step LocalName terminal.Name k ks is = λ f. (is.0, ks, f, ap (λ h. h ∷ ks) is.1)
step LocalAssign terminal.Assign k ks is = λ f. (ks, f, ap (λ h. h ∷ ks) is)
step Term terminal.Literal k ks is = λ f. (tree.Literal is.0, ks, f, ap (λ h. h ∷ ks) is.1)
step Term terminal.Name k ks is = λ f. (tree.Name is.0, ks, f, ap (λ h. h ∷ ks) is.1)
step AfterTerm terminal.Plus k ks is = λ f. headed Others k _ ks is (operand_more ks f)
step AfterTerm terminal.Semicolon k ks is = λ f. headed Others k _ ks is ([], ks, f, refl)
step phase t k ks is = tt

none_some : {A : Type 0} (x : A) → None ≡ Some x → ⊥
none_some x e = cc

at_end : (phase : Phase) (sites : List Site) → cond (is_end phase) (Some []) None ≡ Some sites → Follows phase []
at_end End sites is = refl
at_end phase sites is = absurd (none_some sites is)

pub mapped : {A B : Type 0} (f : A → B) (o : Option A) (y : B) → option_map f o ≡ Some y → (x : A) × (o ≡ Some x)
mapped f None y is = absurd (none_some y is)
mapped f (Some x) y is = (x, refl)

follows : (phase : Phase) (method node : ℕ) (ks : List Kind) (sites : List Site) → sites_from phase method node ks ≡ Some sites → Follows phase ks
follows phase method node [] sites is = at_end phase sites is
follows phase method node (k ∷ ks) sites is =
    option_and_then_some (λ (s : Step). option_map (λ (l : List Site). site_of s.role method node k ∷ l) (sites_from s.phase (method_after method s) (node + nodes_of s ks) ks)) (next phase (terminal_of k)) sites is (λ s found rest.
    let more = mapped (λ (l : List Site). site_of s.role method node k ∷ l) (sites_from s.phase (method_after method s) (node + nodes_of s ks) ks) sites rest in
    subst (λ (o : Option Step). Onward o phase k ks) found (step phase (terminal_of k) k ks (kind_is k))
    (follows s.phase (method_after method s) (node + nodes_of s ks) ks more.0 more.1))

same_some : {A : Type 0} (x y : A) → Some x ≡ Some y → x ≡ y
same_some x y e = cc

-- the tokens are those of a class, and are what they are in it
pub read_as_class : (ks : List Kind) (sites : List Site) → sites_in ks ≡ Some sites → (c : ThinClass) × (ks ≡ tokens_of c) × (sites ≡ sites_of c)
read_as_class ks sites is =
    let f = follows Start 0 0 ks sites is in
    let named = f.1 in
    let opened = named.2 in
    let members = opened.1 in
    let c : ThinClass = record { name = named.0; methods = members.0 } in
    let written : ks ≡ tokens_of c = f.2 ∙ ap (λ (l : List Kind). kind.Word keyword.Class ∷ l) (named.3 ∙ ap (λ (l : List Kind). kind.Ident named.0 ∷ l) (opened.2 ∙ ap (λ (l : List Kind). kind.Sym symbol.OpenBrace ∷ l) members.1)) in
    (c, written, same_some sites (sites_of c) (sym is ∙ ap sites_in written ∙ class_walk c))

-- and the only ones
pub read_of_class : (ks : List Kind) (c : ThinClass) → ks ≡ tokens_of c → sites_in ks ≡ Some (sites_of c)
read_of_class ks c written = ap sites_in written ∙ class_walk c
