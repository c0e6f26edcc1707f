-- What a derived `default` returns is the zero entry.
use Rattle.std.specs.Prelude.{◌≡◌}
use Rattle.manifest.specs.declared.Resource.{Resource}
use Rattle.rules.specs.declared.Definition.{Definition}
use Rattle.rules.specs.declared.Part.{Part}
use Rattle.rules.specs.declared.Instance.{Instance}
use Rattle.state.specs.Stored.{zero_definition, zero_part, zero_resource, zero_instance}

pub instance-zero : (i : Instance) → (i.number ≡ 0) × (i.component ≡ 0) → i ≡ zero_instance
instance-zero i e = λ j. record { number = e.0 j; component = e.1 j }

pub resource-zero : (r : Resource) → (r.provider ≡ 0) × ((r.uri ≡ 0) × (r.value ≡ 0)) → r ≡ zero_resource
resource-zero r e = λ j. record { provider = e.0 j; uri = e.1.0 j; value = e.1.1 j }

pub definition-zero : (d : Definition)
    → (d.app ≡ 0) × ((d.define.permission ≡ 0) × ((d.define.level ≡ 0) × (d.define.group ≡ 0))) → d ≡ zero_definition
definition-zero d e =
    λ j. record { app = e.0 j; define = record { permission = e.1.0 j; level = e.1.1.0 j; group = e.1.1.1 j } }

pub part-zero : (k : Part)
    → (k.app ≡ 0) × ((k.component.number ≡ 0) × ((k.component.kind ≡ 0) × ((k.component.exported ≡ 0)
    × ((k.component.shares ≡ 0) × ((k.component.start ≡ 0) × ((k.component.read ≡ 0) × (k.component.write ≡ 0)))))))
    → k ≡ zero_part
part-zero k e =
    λ j. record {
      app = e.0 j;
      component =
          record {
            number = e.1.0 j;
            kind = e.1.1.0 j;
            exported = e.1.1.1.0 j;
            shares = e.1.1.1.1.0 j;
            start = e.1.1.1.1.1.0 j;
            read = e.1.1.1.1.1.1.0 j;
            write = e.1.1.1.1.1.1.1 j;
          };
    }
