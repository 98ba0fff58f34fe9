pub mod RestsLaws
