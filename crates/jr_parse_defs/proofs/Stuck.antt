-- Where reading stops, as it is stated.
use Rattle.std.proofs.Common.{◌≡◌, ℕ, ◌≤◌, List, ◌++◌, Err, refl}
use Rattle.jr_base.specs.declared.kind.Kind.{Kind}
use Rattle.jr_parse_laws.specs.declared.fault.Fault.{Fault}
use Rattle.jr_parse_laws.specs.Parsers.{Parser, ◌>>=◌}
use Rattle.jr_parse_laws.specs.Viable.{Stuck}
use Rattle.jr_parse_laws.proofs.Stops.{leading_nothing}
use Rattle.jr_parse_expr.proofs.AllLocals.{wider_le, alone_by}
use Rattle.jr_parse_expr.proofs.Growths.{Growing, grows}
use Rattle.jr_parse_defs.specs.Stmts.{stmt, body, ctor_body}
use Rattle.jr_parse_defs.specs.Decls.{modifiers, member, decl, unit}
use Rattle.jr_parse_defs.specs.Writing.{write_stmt, write_block, write_member, write_decl, write_unit}
use Rattle.jr_parse_defs.specs.Follow.{IsStmt}
use Rattle.jr_parse_defs.specs.Laws.{IsBlockOf, IsCtorBlockOf, IsMemberOf, IsDeclOf, IsUnitOf, IsStmtStuck, IsBodyStuck, IsCtorBodyStuck, IsMemberStuck, IsDeclStuck, IsUnitStuck}
use Rattle.jr_parse_defs.proofs.Nears.{Near}
use Rattle.jr_parse_defs.proofs.StmtNears.{stmt_near, body_near}
use Rattle.jr_parse_defs.proofs.BodyNears.{ctor_near}
use Rattle.jr_parse_defs.proofs.DeclNears.{both_near}
use Rattle.jr_parse_defs.proofs.UnitNears.{decl_near, unit_near}
use Rattle.jr_parse_defs.proofs.Grows.{Low}
use Rattle.jr_parse_defs.proofs.StmtGrows.{stmt_grow, body_grow_at}
use Rattle.jr_parse_defs.proofs.BodyGrows.{ctor_grow}
use Rattle.jr_parse_defs.proofs.DeclGrows.{both_grow, decl_grow}
use Rattle.jr_parse_defs.proofs.UnitGrows.{unit_grow}

stuck_of : {A : Type 0} {Shape : A → Type 0} {depth : A → ℕ} (Is : ℕ → A → Type 0) (write : A → List Kind → List Kind) (read : ℕ → Parser A) (room : ℕ) (ts : List Kind) (f : Fault) (rest : List Kind)
    → ((r : ℕ) (a : A) → Low Shape depth r a → Is r a) → Growing (Low Shape depth) write room ts (f, rest) → ((other : ℕ) (le : room ≤ other) → Near room other le (read room) (read other)) → read room ts ≡ Err (f, rest)
    → Stuck Is write read room ts f rest
stuck_of Is write read room ts f rest is growing near h =
    let g = grows room room ts (f, rest) (λ z. z) leading_nothing (λ a. a) (λ z. z) (λ a z. refl) (λ r a low. (r, is r a low)) (λ a low. is room a low) growing in
    record {
      viable = g.viable;
      deeper = g.deeper;
      alone = λ other w wider e.
          let up = wider_le f room other wider in
          let a = alone_by room other up (read other) ts (read room ts) f rest h ((near other up).kept ts) wider in
          (a.front ++ w, record { front = a.front; one = a.split; two = refl }, a.again w e);
    }

pub stmts_stuck : IsStmtStuck
stmts_stuck room declares ts f rest some h =
    stuck_of (λ r. IsStmt r declares) write_stmt (λ r. stmt r declares) room ts f rest (λ r a low. record { shaped = low.shaped.0; allowed = low.shaped.1; low = low.low }) ((stmt_grow room declares).grow some ts (f, rest) h)
    (λ other le. stmt_near room other le declares) h

pub bodies_stuck : IsBodyStuck
bodies_stuck room ts f rest h = stuck_of IsBlockOf write_block body room ts f rest (λ r a low. (low.shaped, low.low)) (body_grow_at room ts (f, rest) h) (λ other le. body_near room other le) h

pub ctors_stuck : IsCtorBodyStuck
ctors_stuck room ts f rest h = stuck_of IsCtorBlockOf write_block ctor_body room ts f rest (λ r a low. (low.shaped, low.low)) (ctor_grow room ts (f, rest) h) (λ other le. ctor_near room other le) h

pub members_stuck : IsMemberStuck
members_stuck room ts f rest some h = stuck_of IsMemberOf write_member member room ts f rest (λ r a low. (low.shaped, low.low)) ((both_grow room).member.grow some ts (f, rest) h) (λ other le. (both_near room other le).member) h

pub decls_stuck : IsDeclStuck
decls_stuck room ts f rest some h = stuck_of IsDeclOf write_decl (λ r. modifiers >>= decl r) room ts f rest (λ r a low. (low.shaped, low.low)) (decl_grow room some ts (f, rest) h) (λ other le. decl_near room other le) h

pub units_stuck : IsUnitStuck
units_stuck room ts f rest some h = stuck_of IsUnitOf write_unit unit room ts f rest (λ r a low. (low.shaped, low.low)) (unit_grow room some ts (f, rest) h) (λ other le. unit_near room other le) h
