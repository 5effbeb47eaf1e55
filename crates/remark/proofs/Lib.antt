pub mod LotByLot
