pub mod Cuttable
