-- Each multiplier of a writable six has its digit, as the machine reads the field back.
use Rattle.std.proofs.Common.{rules, ◌≡◌, true, ◌≤◌, sym, ◌∙◌, arith, nat_abs, w32, to_z, of_z, to_z-of_z}
use Rattle.arguments.specs.declared.Multipliers.{Multipliers}
use Rattle.doodson.specs.Doodson.{other, writable}
use Rattle.doodson.proofs.Digits.{Held, writable_each, first_small}
use Rattle.doodson.proofs.number_of.Goals as goal

record AsRead (n : Multipliers) : Type 0 where
  tau : nat_abs (to_z w32 (of_z w32 n.tau)) ≤ 9
  s : other (to_z w32 (of_z w32 n.s)) ≡ true
  h : other (to_z w32 (of_z w32 n.h)) ≡ true
  p : other (to_z w32 (of_z w32 n.p)) ≡ true
  np : other (to_z w32 (of_z w32 n.np)) ≡ true
  ps : other (to_z w32 (of_z w32 n.ps)) ≡ true

as_read : (n : Multipliers) → Held n → writable n ≡ true → AsRead n
as_read n f e =
    let w = writable_each n e in
    record {
      tau = rw (to_z-of_z f.tau) (first_small n.tau w.tau);
      s = rw (to_z-of_z f.s) w.s;
      h = rw (to_z-of_z f.h) w.h;
      p = rw (to_z-of_z f.p) w.p;
      np = rw (to_z-of_z f.np) w.np;
      ps = rw (to_z-of_z f.ps) w.ps;
    }

pub appended-two-requires-clause-digit : goal.appended-two-requires-clause-digit
appended-two-requires-clause-digit c = (as_read c.args.n (search rules) (sym c.is_writable.ensures ∙ c.if-not-is_writable.false)).s

pub appended-three-requires-clause-digit : goal.appended-three-requires-clause-digit
appended-three-requires-clause-digit c = (as_read c.args.n (search rules) (sym c.is_writable.ensures ∙ c.if-not-is_writable.false)).h

pub appended-four-requires-clause-digit : goal.appended-four-requires-clause-digit
appended-four-requires-clause-digit c = (as_read c.args.n (search rules) (sym c.is_writable.ensures ∙ c.if-not-is_writable.false)).p

pub appended-five-requires-clause-digit : goal.appended-five-requires-clause-digit
appended-five-requires-clause-digit c = (as_read c.args.n (search rules) (sym c.is_writable.ensures ∙ c.if-not-is_writable.false)).np

pub appended-requires-clause-digit : goal.appended-requires-clause-digit
appended-requires-clause-digit c = (as_read c.args.n (search rules) (sym c.is_writable.ensures ∙ c.if-not-is_writable.false)).ps

pub appended-five-requires-clause-room : goal.appended-five-requires-clause-room
appended-five-requires-clause-room c = omega (arith, (as_read c.args.n (search rules) (sym c.is_writable.ensures ∙ c.if-not-is_writable.false)).tau)

pub appended-requires-clause-room : goal.appended-requires-clause-room
appended-requires-clause-room c = omega (arith, (as_read c.args.n (search rules) (sym c.is_writable.ensures ∙ c.if-not-is_writable.false)).tau)
