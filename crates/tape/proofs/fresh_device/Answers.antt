-- `fresh_device` meets its contract: the lists of the fresh state are empty, so that their arrays hold zeros only.
use Rattle.state.specs.Tables.{fresh}
use Rattle.state.specs.Stored.{digits_of, mask_of, device_of}
use Rattle.state.proofs.Zeros.{definition-zero, part-zero, resource-zero, instance-zero}
use Rattle.tape.proofs.fresh_device.Goals as goal

pub returns : goal.returns
unfolding device_of fresh mask_of digits_of
returns c =
    rw (
      c.empty.ensures,
      c.default.ensures,
      c.empty-2.ensures,
      definition-zero c.default-2.result c.default-2.ensures,
      c.empty-3.ensures,
      part-zero c.default-3.result c.default-3.ensures,
      c.empty-4.ensures,
      resource-zero c.default-4.result c.default-4.ensures,
      c.empty-5.ensures,
      instance-zero c.default-5.result c.default-5.ensures,
    )
