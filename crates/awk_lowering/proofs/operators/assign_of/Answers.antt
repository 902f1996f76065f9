use Rattle.std.proofs.Common.{rules, refl}
use Rattle.awk_program.proofs.Views.{view-Assign, view-Change}
use Rattle.awk_lowering.proofs.operators.assign_of.Goals as goal

pub returns-in_err-target : goal.returns-in_err-target
returns-in_err-target c = λ t a b h0 h1. search rules

pub returns-in-Set : goal.returns-in-Set
returns-in-Set c = λ t a b h0 h1. let p0 = rw c.in_ok-target.ensures.0 at h0 in
    let p1 = rw c.in_ok-target.ensures.1 at h1 in rw (c.in-Set.is, view-Assign, p0, p1) refl

pub returns-in-Add : goal.returns-in-Add
returns-in-Add c = λ t a b h0 h1. let p0 = rw c.in_ok-target.ensures.0 at h0 in
    let p1 = rw c.in_ok-target.ensures.1 at h1 in rw (c.in-Add.is, view-Change, p0, p1) refl

pub returns-in-Subtract : goal.returns-in-Subtract
returns-in-Subtract c = λ t a b h0 h1. let p0 = rw c.in_ok-target.ensures.0 at h0 in
    let p1 = rw c.in_ok-target.ensures.1 at h1 in rw (c.in-Subtract.is, view-Change, p0, p1) refl

pub returns-in-Multiply : goal.returns-in-Multiply
returns-in-Multiply c = λ t a b h0 h1. let p0 = rw c.in_ok-target.ensures.0 at h0 in
    let p1 = rw c.in_ok-target.ensures.1 at h1 in rw (c.in-Multiply.is, view-Change, p0, p1) refl

pub returns-in-Divide : goal.returns-in-Divide
returns-in-Divide c = λ t a b h0 h1. let p0 = rw c.in_ok-target.ensures.0 at h0 in
    let p1 = rw c.in_ok-target.ensures.1 at h1 in rw (c.in-Divide.is, view-Change, p0, p1) refl

pub returns-in-Remainder : goal.returns-in-Remainder
returns-in-Remainder c = λ t a b h0 h1. let p0 = rw c.in_ok-target.ensures.0 at h0 in
    let p1 = rw c.in_ok-target.ensures.1 at h1 in rw (c.in-Remainder.is, view-Change, p0, p1) refl

pub returns-in-Power : goal.returns-in-Power
returns-in-Power c = λ t a b h0 h1. let p0 = rw c.in_ok-target.ensures.0 at h0 in
    let p1 = rw c.in_ok-target.ensures.1 at h1 in rw (c.in-Power.is, view-Change, p0, p1) refl
