use mir.Syntax.{w32}
use mir.Val.{SFits}
use Rattle.std.proofs.Common.{rules, subst}
use Rattle.std.proofs.Math.Facts.{to_z-of_z}
use Rattle.jm_interp.specs.StringMethods.{CharGives}
use Rattle.jm_interp.proofs.CodelessCalls.{string_below, index_is, char_comes}
use Rattle.jm_interp.proofs.OnTop.{its_place}
use Rattle.jm_interp.proofs.codeless_calls.char_on_top.Goals as goal

pub returns-in_err-index : goal.returns-in_err-index
returns-in_err-index g c = let bad = index_is c.requires c.index.ensures c.in_err-index.ensures.value in cc

pub char_at-requires-clause-held : goal.char_at-requires-clause-held
char_at-requires-clause-held g c = its_place c.requires.on 1 (string_below c.requires)

pub returns : goal.returns
returns g c =
    let fits : SFits w32 c.in_ok-index.index = search rules in
    let at = c.args.at in
    let result = c.char_at.result in
    let gives = subst (λ z. CharGives g.H.Heap.content at c.args.state.now c.args.string z result) (to_z-of_z fits) c.char_at.ensures in
    char_comes c.requires c.index.ensures c.in_ok-index.ensures.room c.in_ok-index.ensures.value result gives
