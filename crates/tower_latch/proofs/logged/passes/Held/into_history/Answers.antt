use Rattle.std.proofs.Common.{◌≡◌, ℕ, ◌+◌, List, [], ◌∷◌, ◌++◌, length, refl, sym, ap, ◌∙◌, subst, arith, append_assoc, append-nil}
use Rattle.std.specs.List.{sum_by}
use Rattle.std.proofs.lemmas.List.Sums.{sum_by-append}
use Rattle.crossbeam_utils.specs.Seq.{cell_view}
use Rattle.tower_latch.specs.History.{Stand, Rises, EachFits, Weighs}
use Rattle.tower_latch.specs.Tokens.{claimer, gathered, gatherer, Accounts}
use Rattle.tower_latch.specs.declared.logged.rule.View.{View}
use Rattle.std.proofs.lemmas.List.{nil_from_length}
use Rattle.tower_latch.proofs.Places.{joined, stand_each, weighs_of, one_each}
use Rattle.tower_latch.proofs.logged.passes.Held.into_history.Goals as goal

pub loop-pass-init : goal.loop-pass-init
loop-pass-init g c =
    let i = c.self.invariant in
    ([], sym (append-nil _), i.4, i.5, i.2, i.3, tt)

amounts : {A : Type 0} (rest share : ℕ) (pass : List A) (done : List (List A)) → rest ≡ sum_by length done → share ≡ length pass → rest + share ≡ sum_by length (pass ∷ done)
amounts rest share pass done e f = let d : sum_by length (pass ∷ done) ≡ sum_by length (pass ∷ []) + sum_by length done = sum_by-append length (pass ∷ []) done in let one : sum_by length (pass ∷ []) ≡ 0 + length pass = refl in omega (arith, e, f, d, one)

pub loop-pass-preserved : goal.loop-pass-preserved
loop-pass-preserved g c =
    let i = c.loop-pass.invariant in
    let p = c.pass.invariant in
    let m = c.merge.ensures in
    let t = c.gather.ensures in
    let pass : List (ℕ × g.row.C-Step.Denot × g.row.C-Reply.Denot) = c.in-Some.pass in
    let is : c.pass.inside.receipts.items ≡ pass = c.pass.view_is in
    let len = ap length is in (
      pass ∷ i.0,
      i.1 ∙ ap (λ l. l ++ i.0) c.in-Some.ensures.items ∙ append_assoc c.pop.new.self.items (pass ∷ []) i.0,
      omega (arith, m.parts, i.2, p.0),
      m.amount ∙ amounts _ _ pass i.0 i.3 (p.1 ∙ len),
      t.same ∙ i.4,
      t.keeper ∙ ap (λ v. gathered v (cell_view c.pass.inside.token)) i.5 ∙ ap (gathered (gatherer c.self.inside.history.items (joined i.0))) (p.3 ∙ ap claimer is),
      (subst Rises is p.4, i.6),
    )

empty : {A : Type 0} (initial left done : List A) → length left ≡ 0 → initial ≡ left ++ done → done ≡ initial
empty initial left done none e = sym (e ∙ ap (λ l. l ++ done) (nil_from_length left none))

pub returns-clause-stand : goal.returns-clause-stand
returns-clause-stand g c =
    let i = c.loop-pass.invariant in
    let k = c.compare.ensures in
    let none : length c.loop-pass.passes.items ≡ 0 = sym c.loop-pass.passes.ok.0 ∙ c.in_default.ensures.cases.0 in
    let whole : i.0 ≡ c.args.passes.items = empty c.args.passes.items c.loop-pass.passes.items i.0 none i.1 in
    let known = ap (λ (v : View g.row.C-Step.Denot g.row.C-Reply.Denot). v.all) i.5 in
    let claims = ap (λ (v : View g.row.C-Step.Denot g.row.C-Reply.Denot). v.claims) i.5 in
    let stand : Stand c.self.inside.history.items (joined i.0) = subst (λ l. Stand l (joined i.0)) known (subst (Stand (cell_view c.loop-pass.keeper).all) claims k.stand) in
    subst (EachFits c.self.inside.history.items) whole (stand_each c.self.inside.history.items i.0 stand i.6)

pub returns-clause-weighs : goal.returns-clause-weighs
returns-clause-weighs g c =
    let i = c.loop-pass.invariant in
    let k = c.compare.ensures in
    let a = c.audit.ensures in
    let none : length c.loop-pass.passes.items ≡ 0 = sym c.loop-pass.passes.ok.0 ∙ c.in_default.ensures.cases.0 in
    let whole : i.0 ≡ c.args.passes.items = empty c.args.passes.items c.loop-pass.passes.items i.0 none i.1 in
    let known = ap (λ (v : View g.row.C-Step.Denot g.row.C-Reply.Denot). v.all) i.5 in
    let claims = ap (λ (v : View g.row.C-Step.Denot g.row.C-Reply.Denot). v.claims) i.5 in
    let accounts : Accounts c.self.inside.history.items (joined i.0) = subst (λ l. Accounts l (joined i.0)) known (subst (Accounts (cell_view c.loop-pass.keeper).all) claims k.accounts) in
    let parts : c.loop-pass.rest.parts ≡ g.K.Ledger.parts = i.2 ∙ ap length whole ∙ sym c.args.passes.ok.0 ∙ c.requires.all in
    let count : length c.self.inside.history.items ≡ sum_by length i.0 = sym c.self.invariant.1 ∙ sym (a.whole parts) ∙ i.3 in
    subst (Weighs c.self.inside.history.items) whole (weighs_of c.self.inside.history.items i.0 accounts count)

pub returns-clause-each : goal.returns-clause-each
returns-clause-each g c = one_each c.self.inside.history.items c.args.passes.items (returns-clause-stand g c) (returns-clause-weighs g c)
