use Rattle.legal.proofs.body_stands.Goals as goal

pub products_stand-products-requires : goal.products_stand-products-requires
products_stand-products-requires c =
    let d = c in
    record { summed = record { lent = d.requires; held = d.columns_of-c.ensures.held }; kept = d.columns_of-c.ensures.kept }

pub slots_stand-slots-requires : goal.slots_stand-slots-requires
slots_stand-slots-requires c =
    let d = c in
    record { lent = d.requires; held = d.columns_of-c.ensures.held }

pub phase_stands-requires : goal.phase_stands-requires
phase_stands-requires c =
    let d = c in
    record { summed = record { lent = d.requires; held = d.columns_of-c.ensures.held }; kept = d.columns_of-c.ensures.kept }

pub returns : goal.returns
returns c =
    let d = c in
    let e = d in
    rw (
      e.products_stand-products.ensures,
      e.columns_of-c.ensures.stand,
      e.bidders_stand-bidders.ensures,
      d.slots_stand-slots.ensures,
      c.phase_stands.ensures,
    )
