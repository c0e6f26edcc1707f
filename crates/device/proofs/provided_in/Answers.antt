-- Each turn adds one resource more with its provider.
use Rattle.std.proofs.Common.{◌∙◌, ◌<◌, [], ◌∷◌, get_or, arith, length, map, take, take_all, length-take}
use Rattle.std.proofs.lemmas.List.{take_more, length-map}
use Rattle.rules.specs.ListsLaws.{map-append}
use Rattle.state.specs.Stored.{zero_part, zero_resource}
use Rattle.tables.specs.Held.{parts_in}
use Rattle.tables.specs.HeldLaws.{entry-more, held}
use Rattle.device.specs.Tests.{with_provider}
use Rattle.device.proofs.provided_in.Goals as goal

pub loop-resource-preserved : goal.loop-resource-preserved
loop-resource-preserved c =
    let l = c.held-resource-items.result.now in
    let i = c.loop-resource.resource-index in
    let f = with_provider (parts_in c.args.parts) in
    let few : length (map f (take i l)) < 128 =
    omega (arith, length-map (take i l) f, length-take i l, c.held-resource-items.ensures.room) in
    c.push.ensures
    ∙ rw (
      c.loop-resource.invariant,
      take_more l i zero_resource c.loop-resource-test.true,
      map-append f (take i l) (get_or l i zero_resource ∷ []),
      c.part_at.ensures,
    )
    (entry-more _ 128 (map f (take i l)) (f (get_or l i zero_resource)) few)

pub returns : goal.returns
returns c =
    let l = c.held-resource-items.result.now in
    rw (c.loop-resource.invariant, take_all _ _ c.loop-resource-test.false, c.held-resource-items.ensures.value)
    (held (record { provider = zero_part; resource = zero_resource }) 128 _)
